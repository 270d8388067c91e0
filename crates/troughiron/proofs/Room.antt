-- 64 line states are enough: of an accepted image the run for C is refused for its room only where the answers are shorter than the trace.
-- Assumes nothing.
use Prim.Native.Nat.{ℕ}
use mathlib.Core.Path.{◌≡◌, ap, ◌∙◌}
use mathlib.Core.Bool.{Bool, ◌||◌, or-false}
use mathlib.Core.List.{List}
use lib.ListN.{length}
use lib.Dec.{ltb}
use borrow.Author.Tests.{le-ltb}
use Rattle.image.specs.Image.{count_of}
use Rattle.image.specs.Refusal.{image_refusal}
use Rattle.image.proofs.Accepted.{accepted-known}
use Rattle.bus.specs.Refusal.{no_run_room}

pub enough : (image trace : List ℕ) (answers : ℕ) → image_refusal image ≡ 0 → no_run_room image trace answers 64 ≡ ltb answers (length trace)
unfolding no_run_room
enough image trace answers e =
    ap (λ (b : Bool). ltb answers (length trace) || b) (le-ltb 64 (count_of image) (accepted-known image e).few) ∙ or-false (ltb answers (length trace))

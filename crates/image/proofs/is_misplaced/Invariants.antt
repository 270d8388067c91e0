use Rattle.std.proofs.Common.{ℕ, ◌≡◌, false, not}
use Rattle.std.proofs.Math.Dec.{eqb}
use Rattle.image.specs.Image.{offset_at, packed_at}
use Rattle.image.specs.Refusal.{some_below}
use Rattle.image.proofs.is_misplaced.Given as goal

abbrev pub invariant-loop-i : goal.invariant-loop-i
invariant-loop-i l =
    (l.at ≡ packed_at l.image l.i)
    × (some_below l.i (λ (k : ℕ). not (eqb (offset_at l.image k) (packed_at l.image k))) ≡ false)

-- Eight slots of a listening transfer receive a byte whose bits the master sends. This stands apart from the laws that
-- it rests on, so that an edit of one of them is refused there. Assumes nothing.
use Prim.Native.Nat.{ℕ, zero, suc, ◌/◌, ◌<◌}
use mathlib.Core.Path.{◌≡◌, refl, ap, ◌∙◌}
use native.Mathlib.Omega.{arith}
use lib.ListN.{length}
use Rattle.bits.specs.Levels.{low_bits}
use Rattle.bits.proofs.Levels.{spelled-bits}
use Rattle.line.specs.Transfers.{listening}
use Rattle.line.specs.Slots.{shifted_over}
use Rattle.line.specs.declared.Stage.{Stage}
use Rattle.line.proofs.Transfers.{listening-law}

low-length : (n value : ℕ) → length (low_bits n value) ≡ n
unfolding low_bits
low-length zero value = refl
low-length (suc n) value = ap suc (low-length n (value / 2))

-- a byte's own bits are received as that byte
pub listening-byte : (stage : Stage) (byte : ℕ) → byte < 256
    → (shifted_over (listening stage) (low_bits 8 byte)).register ≡ byte
listening-byte stage byte h =
    listening-law stage (low_bits 8 byte) (low-length 8 byte) ∙ spelled-bits 8 byte ∙ omega arith

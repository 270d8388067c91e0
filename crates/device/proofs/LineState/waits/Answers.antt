use Prim.Native.Nat.{ℕ, ◌%◌}
use mathlib.Core.Path.{◌≡◌, ◌∙◌, sym, ap}
use mathlib.Core.Bool.{Bool, true, false, not, ◌&&◌, and-true, and-false}
use native.Mathlib.Omega.{arith}
use native.Mathlib.Nat.{le-max_right}
use lib.Dec.{eqb}
use lib.Bits.{bit_or, or_zero_r, or_step}
use mir.Val.{bool_byte}
use borrow.Author.Tests.{ne_eqb}
use Rattle.device.specs.Device.{waits}
use Rattle.device.proofs.LineState.waits.Goals as goal

-- `device::LineState::waits` meets its contract: the slots left and the speed, or'ed, are 0 where both are.
odd : (left : ℕ) → bit_or left 1 ≡ 0 → ⊥
odd left e = absurd (omega (arith, e, or_step left 1, le-max_right (left % 2) 1))

both : (left : ℕ) (overdrive : Bool) → eqb (bit_or left (bool_byte overdrive)) 0 ≡ (eqb left 0 && not overdrive)
both left true = ne_eqb (bit_or left 1) 0 (odd left) ∙ sym (and-false (eqb left 0))
both left false = ap (λ (n : ℕ). eqb n 0) (or_zero_r left) ∙ sym (and-true (eqb left 0))

pub returns : goal.returns
unfolding waits
returns c =
    let state = c.args.self in
    ap (λ (n : ℕ). eqb (bit_or state.transfer.left n) 0) c.from.ensures
    ∙ both state.transfer.left state.overdrive

-- Laws of a transfer: what a device sends in it, and what it receives. Assumes nothing.
use Prim.Native.Nat.{ℕ, suc, ◌-◌, ◌≤◌, ◌<◌}
use mathlib.Core.Path.{◌≡◌, refl, ap, ◌∙◌}
use mathlib.Core.Bool.{Bool}
use mathlib.Core.List.{List, [], ◌∷◌, ◌++◌}
use native.Mathlib.Omega.{arith}
use native.Mathlib.Nat.{sub-zero}
use lib.ListN.{length}
use Rattle.bits.specs.Bit.{bit_of}
use Rattle.bits.specs.Levels.{low_bits, spelled, shifts_in}
use Rattle.bits.proofs.Levels.{level-above, spells-eight}
use Rattle.line.specs.Transfers.{sending, listening, transfer_sends, shifted}
use Rattle.line.specs.Slots.{levels_sent_over, shifted_over}
use Rattle.line.specs.declared.Stage.{Stage}
use Rattle.line.specs.declared.Transfer.{Transfer}

-- ---- what is sent

-- up to eight slots send the low bits of the register, the lowest first, whatever the levels of the line are
pub transfer-sends : (levels : List Bool) (transfer : Transfer) → length levels ≤ 8
    → levels_sent_over transfer levels ≡ low_bits (length levels) transfer.register
unfolding levels_sent_over low_bits transfer_sends
transfer-sends [] transfer h = refl
transfer-sends (level ∷ levels) transfer h =
    ap (λ (xs : List Bool). bit_of transfer.register 0 ∷ xs)
    (transfer-sends levels (shifted transfer level) (omega arith)
    ∙ level-above (length levels) transfer.register level (omega arith))

-- eight slots of a sending transfer send the byte's bits, least significant first, whatever the levels are
pub sending-law : (stage : Stage) (byte : ℕ) (levels : List Bool) → length levels ≡ 8
    → levels_sent_over (sending stage byte) levels ≡ low_bits 8 byte
sending-law stage byte levels h = rw h at (transfer-sends levels (sending stage byte) (omega arith))

-- ---- what is received

-- slots of a transfer count down what is left of it and keep its stage
less-left : (left n : ℕ) → left - 1 - n ≡ left - suc n
less-left left n = omega arith

pub over-is : (levels : List Bool) (transfer : Transfer) → shifted_over transfer levels
    ≡ record {
      register = shifts_in transfer.register levels;
      left = transfer.left - length levels;
      stage = transfer.stage;
    }
unfolding shifted_over shifts_in
over-is [] transfer = rw sub-zero
over-is (level ∷ levels) transfer =
    over-is levels (shifted transfer level)
    ∙ ap (λ (left : ℕ). record {
      register = shifts_in (shifted transfer level).register levels;
      left = left;
      stage = transfer.stage;
    }) (less-left transfer.left (length levels))

-- one slot more
pub over-more : (levels : List Bool) (level : Bool) (transfer : Transfer)
    → shifted_over transfer (levels ++ level ∷ []) ≡ shifted (shifted_over transfer levels) level
unfolding shifted_over
over-more [] level transfer = refl
over-more (first ∷ levels) level transfer = over-more levels level (shifted transfer first)

-- eight slots receive the byte that their levels spell, whatever the register held before
pub transfer-receives : (transfer : Transfer) (levels : List Bool) → transfer.register < 256 → length levels ≡ 8
    → (shifted_over transfer levels).register ≡ spelled levels
transfer-receives transfer levels small h =
    ap (λ (t : Transfer). t.register) (over-is levels transfer) ∙ spells-eight transfer.register small levels h

-- eight slots of a listening transfer receive the byte that their levels spell
pub listening-law : (stage : Stage) (levels : List Bool) → length levels ≡ 8
    → (shifted_over (listening stage) levels).register ≡ spelled levels
listening-law stage levels h = transfer-receives (listening stage) levels (omega arith) h

-- What a program pulse changes, and what it keeps. Assumes nothing.
use Prim.Native.Nat.{ℕ, zero, suc, ◌+◌, ◌≤◌}
use mathlib.Core.Path.{◌≡◌, refl, sym}
use mathlib.Core.Bool.{Bool, true, false, cond}
use mathlib.Core.List.{List, [], ◌∷◌}
use native.Mathlib.Omega.{arith}
use lib.Bits.{bit_and, and_zero_l}
use lib.ListN.{length, get_or, set, take, length-set}
use lib.Seq.{get_or-set_other, set-get_or, take-set-le}
use Rattle.kind.specs.Kind.{code_length}
use Rattle.line.specs.Transfers.{waiting, transfer_sends}
use Rattle.line.specs.declared.Field.{Field}
use Rattle.line.specs.declared.EpromStage.{EpromStage}
use Rattle.line.specs.declared.EpromStage.TheVariants.{PulseDue}
use Rattle.line.specs.declared.Transfer.{Transfer}
use Rattle.bits.specs.Bit.{bit_of}
use Rattle.eprom.specs.Fields.{field_start, stored_byte}
use Rattle.eprom.specs.Writes.{await_pulse, page_protected, programmed_byte, programmed_body}
use Rattle.eprom.specs.Eprom.{eprom_next, eprom_pulse, eprom_program}
use Rattle.eprom.proofs.Laws.{start-least}

-- ---- the byte at the address

-- a byte that is changed in place, where zero stays zero: past a list's end there is none, which is read as zero
in_place : (f : ℕ → ℕ) → f 0 ≡ 0 → (xs : List ℕ) (i : ℕ) → get_or (set xs i (f (get_or xs i 0))) i 0 ≡ f (get_or xs i 0)
in_place f z [] i = sym z
in_place f z (x ∷ xs) zero = refl
in_place f z (x ∷ xs) (suc i) = in_place f z xs i

-- the byte that is then stored is the one that the pulse makes of it, for any address
pub stored-programmed : (field : Field) (address byte : ℕ) (body : List ℕ)
    → stored_byte field address (programmed_body field address byte body) ≡ programmed_byte field address byte body
unfolding stored_byte programmed_body programmed_byte
stored-programmed field address byte body =
    let kept = page_protected field address body in
    in_place (λ (old : ℕ). cond kept old (bit_and old byte)) (none kept) body (field_start field + address)
  where
    none : (t : Bool) → cond t 0 (bit_and 0 byte) ≡ 0
    none true = refl
    none false = and_zero_l byte

-- under protection nothing changes
pub pulse-protected : (field : Field) (address byte : ℕ) (body : List ℕ) → page_protected field address body ≡ true
    → programmed_body field address byte body ≡ body
unfolding programmed_body programmed_byte stored_byte
pulse-protected field address byte body h = rw h (set-get_or body (field_start field + address) 0)

-- else the byte becomes its AND with the data
pub pulse-stores : (field : Field) (address byte : ℕ) (body : List ℕ) → page_protected field address body ≡ false
    → stored_byte field address (programmed_body field address byte body) ≡ bit_and (stored_byte field address body) byte
unfolding programmed_byte
pulse-stores field address byte body h = rw h at (stored-programmed field address byte body)

-- ---- all else

-- every other byte stays as it was
pub pulse-keeps : (field : Field) (address byte j : ℕ) (body : List ℕ) → (j ≡ field_start field + address → ⊥)
    → get_or (programmed_body field address byte body) j 0 ≡ get_or body j 0
unfolding programmed_body
pulse-keeps field address byte j body h = get_or-set_other body (field_start field + address) j _ 0 h

-- what holds of a body, and of it with any byte changed that is not of its registration code, holds after any pulse
after-program : (P : List ℕ → Type 0) (e : EpromStage) (body : List ℕ) → P body
    → ((i v : ℕ) → code_length ≤ i → P (set body i v)) → P (eprom_program e body)
unfolding eprom_program programmed_body
after-program P (PulseDue field address byte) body same changed =
    changed (field_start field + address) _ (omega (arith, start-least field))
after-program P _ body same changed = same

-- so a body keeps its length and its registration code
pub program-length : (e : EpromStage) (body : List ℕ) → length (eprom_program e body) ≡ length body
program-length e body = after-program (λ b. length b ≡ length body) e body refl (λ i v h. length-set body i v)

pub program-code : (e : EpromStage) (body : List ℕ) → take code_length (eprom_program e body) ≡ take code_length body
program-code e body =
    after-program (λ b. take code_length b ≡ take code_length body) e body refl (take-set-le code_length body)

-- ---- where a pulse is due, and where not

-- a slot where a pulse is due is answered 1, and the device waits
pub slot_due : (field : Field) (address byte value : ℕ) (body : List ℕ)
    → (transfer_sends (await_pulse field address byte) ≡ true) × (eprom_next (PulseDue field address byte) value body ≡ waiting)
unfolding transfer_sends bit_of eprom_next
slot_due field address byte value body = (refl, refl)

-- a pulse elsewhere does nothing
pub pulse-elsewhere : (e : EpromStage) (transfer : Transfer) (body : List ℕ)
    → ((field : Field) (address byte : ℕ) → e ≡ PulseDue field address byte → ⊥)
    → (eprom_pulse e transfer body ≡ transfer) × (eprom_program e body ≡ body)
unfolding eprom_pulse eprom_program
pulse-elsewhere (PulseDue field address byte) transfer body h = absurd (h field address byte refl)
pulse-elsewhere _ transfer body h = (refl, refl)

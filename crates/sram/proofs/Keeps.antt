-- No memory function of a DS1992, DS1993 or DS1996 changes a body's length or its registration code. Assumes nothing.
use Prim.Native.Nat.{ℕ, suc, ◌+◌, ◌*◌, ◌/◌, ◌%◌, ◌≤◌}
use mathlib.Core.Path.{◌≡◌, refl, ◌∙◌}
use mathlib.Core.Bool.{Bool, true, false, cond, not, ◌&&◌}
use mathlib.Core.List.{List, [], ◌∷◌}
use native.Mathlib.Omega.{arith}
use lib.ListN.{length, get_or, set, take, length-set}
use lib.Seq.{sets, take-set-le}
use lib.Dec.{ltb, eqb}
use Rattle.bits.specs.Bit.{byte_of, bit_place, bit_at, with_bit, put_bit}
use Rattle.kind.specs.Kind.{code_length, ta1, ta2, es, scratchpad, memory}
use Rattle.line.specs.declared.SramStage.{SramStage}
use Rattle.line.specs.declared.SramStage.TheVariants.{WriteHigh, WriteData}
use Rattle.line.specs.declared.SramStage.TheVariants.{CopyPattern, ReadHigh}
use Rattle.sram.specs.Sram.{pf, of, aa, target_address, load_address, load_target, begin_byte, store_bit, write_bit, end_data}
use Rattle.sram.specs.Sram.{copy_bytes, copy_to_memory, accept_copy, pattern_same, pattern_write, sram_write, sram_reset}

-- a body and one after it, of the same length and the same registration code
pub record Keeps (body after : List ℕ) : Type 0 where
  pub same_length : length after ≡ length body
  pub same_code : take code_length after ≡ take code_length body

pub kept : {body : List ℕ} → Keeps body body
kept = record { same_length = refl; same_code = refl }

then : {a b c : List ℕ} → Keeps a b → Keeps b c → Keeps a c
then p q = record { same_length = q.same_length ∙ p.same_length; same_code = q.same_code ∙ p.same_code }

pub either : {body a b : List ℕ} (t : Bool) → Keeps body a → Keeps body b → Keeps body (cond t a b)
either true p q = p
either false p q = q

-- a byte, a bit and bytes past the code
set_keeps : (body : List ℕ) (i v : ℕ) → code_length ≤ i → Keeps body (set body i v)
set_keeps body i v h = record { same_length = length-set body i v; same_code = take-set-le code_length body i v h }

put_keeps : (body : List ℕ) (i : ℕ) (level : Bool) → 8 * code_length ≤ i → Keeps body (put_bit body i level)
unfolding put_bit
put_keeps body i level h =
    set_keeps body (byte_of i) (with_bit (get_or body (byte_of i) 0) (bit_place i) level) (omega arith)

sets-keeps : (vs body : List ℕ) (i : ℕ) → code_length ≤ i → Keeps body (sets body i vs)
sets-keeps [] body i h = kept
sets-keeps (v ∷ vs) body i h = then (set_keeps body i v h) (sets-keeps vs (set body i v) (suc i) (omega arith))

-- each change that a memory function makes
address-keeps : (low high : ℕ) (body : List ℕ) → Keeps body (load_address low high body)
unfolding load_address
address-keeps low high body =
    then (set_keeps body ta1 low (omega arith)) (set_keeps (set body ta1 low) ta2 high (omega arith))

load-keeps : (low high : ℕ) (body : List ℕ) → Keeps body (load_target low high body)
unfolding load_target
load-keeps low high body =
    then (address-keeps low high body) (set_keeps (load_address low high body) es (low % 32) (omega arith))

begin-keeps : (offset bit : ℕ) (body : List ℕ) → Keeps body (begin_byte offset bit body)
unfolding begin_byte
begin-keeps offset bit body =
    either (eqb bit 0) (set_keeps body es (get_or body es 0 / 32 * 32 + offset) (omega arith)) kept

store_keeps : (offset bit : ℕ) (body : List ℕ) (level : Bool) → Keeps body (store_bit offset bit body level)
unfolding store_bit
store_keeps offset bit body level =
    let place = scratchpad + offset in
    set_keeps body place (with_bit (get_or body place 0) bit level) (omega arith)

bit-keeps : (offset bit : ℕ) (body : List ℕ) (level : Bool) → Keeps body (write_bit offset bit body level)
unfolding write_bit
bit-keeps offset bit body level =
    either (ltb offset 32)
    (then (begin-keeps offset bit body) (store_keeps offset bit (begin_byte offset bit body) level))
    (put_keeps body of true (omega arith))

end-keeps : (sent : ℕ) (body : List ℕ) → Keeps body (end_data sent body)
unfolding end_data
end-keeps sent body = either (ltb 0 sent && not (bit_at body of)) (put_keeps body pf true (omega arith)) kept

accept-keeps : (size : ℕ) (body : List ℕ) → Keeps body (accept_copy size body)
unfolding accept_copy copy_to_memory
accept-keeps size body =
    then (sets-keeps (copy_bytes size body) body (memory + target_address body) (omega arith))
    (put_keeps (copy_to_memory size body) aa _ (omega arith))

pub write_keeps : (s : SramStage) (size value : ℕ) (body : List ℕ) (level : Bool)
    → Keeps body (sram_write s size value body level)
unfolding sram_write pattern_write
write_keeps (WriteHigh low) size value body level = load-keeps low value body
write_keeps (WriteData offset bit) size value body level = bit-keeps offset bit body level
write_keeps (CopyPattern at same) size value body level =
    either (ltb at 2) kept (either (pattern_same at same value body) (accept-keeps size body) kept)
write_keeps (ReadHigh low) size value body level = address-keeps low value body
write_keeps _ size value body level = kept

pub reset-keeps : (s : SramStage) (body : List ℕ) → Keeps body (sram_reset s body)
unfolding sram_reset
reset-keeps (WriteData offset bit) body = end-keeps bit body
reset-keeps _ body = kept

-- Document 02, item 3: what the last address bit of read memory leaves of the registers, and what follows from it.
-- Assumes nothing.
use Prim.Native.Nat.{ℕ, ◌<◌}
use mathlib.Core.Path.{◌≡◌, ◌∙◌}
use mathlib.Core.Bool.{Bool, true, false}
use mathlib.Core.List.{List}
use native.Mathlib.Omega.{arith}
use lib.ListN.{length, get_or, set, length-set}
use lib.Seq.{get_or-set_same, get_or-set_other}
use borrow.Author.Tests.{lt-ltb, ne_eqb}
use Rattle.bits.specs.Bit.{put_bit}
use Rattle.kind.specs.Kind.{ta1, ta2, es}
use Rattle.line.specs.declared.SramStage.TheVariants.{ReadHigh}
use Rattle.sram.specs.Sram.{address_of, target_address, target_offset, ending_offset, aa, load_address, pattern_same}
use Rattle.sram.specs.Sram.{copy_length, copy_bytes, copy_to_memory, accept_copy, sram_write}

-- TA1 is the low byte as it was sent
low-loaded : (low high : ℕ) (body : List ℕ) → ta1 < length body → get_or (load_address low high body) ta1 0 ≡ low
unfolding load_address
low-loaded low high body h =
    get_or-set_other (set body ta1 low) ta2 ta1 high 0 (λ e. omega arith) ∙ get_or-set_same body ta1 low 0 h

-- and TA2 the high one, so that the target is the address as it was sent, whatever the size of the memory
pub read-target : (low high size : ℕ) (body : List ℕ) (level : Bool) → ta2 < length body
    → target_address (sram_write (ReadHigh low) size high body level) ≡ address_of low high
unfolding sram_write load_address
read-target low high size body level h =
    let first = set body ta1 low in
    let room : ta2 < length first = simp length-set (omega arith) in
    rw (low-loaded low high body (omega arith), get_or-set_same first ta2 high 0 room)

-- every other byte of the body stays
pub read-others : (low high size i : ℕ) (body : List ℕ) (level : Bool) → (i ≡ ta1 → ⊥) → (i ≡ ta2 → ⊥)
    → get_or (sram_write (ReadHigh low) size high body level) i 0 ≡ get_or body i 0
unfolding sram_write load_address
read-others low high size i body level h k =
    get_or-set_other (set body ta1 low) ta2 i high 0 k ∙ get_or-set_other body ta1 i low 0 h

-- E/S among them, with the ending offset and the flags
pub read-es : (low high size : ℕ) (body : List ℕ) (level : Bool)
    → get_or (sram_write (ReadHigh low) size high body level) es 0 ≡ get_or body es 0
read-es low high size body level = read-others low high size es body level (λ e. omega arith) (λ e. omega arith)

-- a copy pattern with TA1 as it was before a read at another low byte no longer matches
pub old-pattern : (low high size : ℕ) (body : List ℕ) (level : Bool) → ta1 < length body → (low ≡ get_or body ta1 0 → ⊥)
    → pattern_same 0 true (get_or body ta1 0) (sram_write (ReadHigh low) size high body level) ≡ false
unfolding pattern_same sram_write
old-pattern low high size body level h k = rw (low-loaded low high body h, ne_eqb low (get_or body ta1 0) k)

-- where the ending offset is below T4:T0, which a read can bring about, a copy writes no byte and sets AA
pub copy-of-nothing : (size : ℕ) (body : List ℕ) → ending_offset body < target_offset body
    → accept_copy size body ≡ put_bit body aa true
unfolding accept_copy copy_to_memory copy_bytes copy_length
copy-of-nothing size body h = rw (lt-ltb (ending_offset body) (target_offset body) h)

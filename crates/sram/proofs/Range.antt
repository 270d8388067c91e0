-- The numbers of a transfer stay in the range of its stage: from the memory command on, whatever comes. Assumes
-- nothing.
use Prim.Native.Nat.{ℕ, ◌+◌, ◌-◌, ◌/◌, ◌%◌, ◌<◌}
use mathlib.Core.Path.{◌≡◌, refl}
use mathlib.Core.Bool.{Bool, true, false, cond, ◌&&◌}
use mathlib.Core.List.{List}
use native.Mathlib.Omega.{arith}
use lib.Dec.{ltb, eqb}
use borrow.Author.Tests.{ltb-true, ltb-false, lt-ltb, eq-eqb}
use Rattle.line.specs.declared.SramStage.{SramStage}
use Rattle.line.specs.declared.SramStage.TheVariants.{WriteLow, WriteHigh, WriteData, ReadRegister, ReadScratchpad}
use Rattle.line.specs.declared.SramStage.TheVariants.{CopyPattern, Copied, ReadLow, ReadHigh, ReadMemory}
use Rattle.line.specs.declared.Transfer.{Transfer}
use Rattle.line.specs.Transfers.{waiting, under_way, sending}
use Rattle.line.proofs.Range.{both, fewer, fewer-beside, slot-left, slot-left-beside}
use Rattle.sram.specs.Sram.{in_sram, address_of, target_offset, write_data_bit, after_data_bit, after_register, after_scratchpad}
use Rattle.sram.specs.Sram.{pattern_same, after_pattern, read_memory, sram_command, sram_next, data_range, sram_range}

-- the device waits, or is in a memory function with its numbers in range
pub data Ranged (size : ℕ) : Transfer → Type 0 where
  waits : Ranged size waiting
  ranged : (s : SramStage) (register left : ℕ) → sram_range s size left ≡ true
      → Ranged size (record { register = register; left = left; stage = in_sram s })

module _ (size : ℕ) where
  -- a test, with what it says on each side
  decide : (t : Bool) {a b : Transfer} → (t ≡ true → Ranged size a) → (t ≡ false → Ranged size b)
      → Ranged size (cond t a b)
  decide true f g = f refl
  decide false f g = g refl

  -- a transfer of eight slots that begins
  begins : {register : ℕ} (s : SramStage) → sram_range s size 8 ≡ true → Ranged size (sending (in_sram s) register)
  begins {register} s h = ranged s register 8 h

  -- ---- after a command

  pub command-ranged : (value : ℕ) (body : List ℕ) → Ranged size (sram_command value body)
  unfolding sram_command sram_range
  command-ranged value body =
      decide (eqb value 0x0F) (λ _. begins WriteLow refl)
      (λ _. decide (eqb value 0xAA) (λ _. begins (ReadRegister 0) refl)
      (λ _. decide (eqb value 0x55) (λ _. begins (CopyPattern 0 true) refl)
      (λ _. decide (eqb value 0xF0) (λ _. begins ReadLow refl) (λ _. waits))))

  -- ---- one slot less, where more than one is left

  pub less-ranged : (s : SramStage) (left : ℕ) → ltb 1 left ≡ true → sram_range s size left ≡ true
      → sram_range s size (left - 1) ≡ true
  unfolding sram_range
  less-ranged WriteLow left more h = fewer 8 left more h
  less-ranged (WriteHigh low) left more h = fewer 8 left more h
  less-ranged (WriteData offset bit) left more h = fewer-beside (data_range offset bit) 1 left more h
  less-ranged (ReadRegister at) left more h = fewer-beside (ltb at 3) 8 left more h
  less-ranged (ReadScratchpad offset) left more h = fewer-beside (ltb offset 32) 8 left more h
  less-ranged (CopyPattern at same) left more h = fewer-beside (ltb at 3) 8 left more h
  less-ranged Copied left more h = fewer 8 left more h
  less-ranged ReadLow left more h = fewer 8 left more h
  less-ranged (ReadHigh low) left more h = fewer 8 left more h
  less-ranged (ReadMemory low high) left more h = fewer-beside (ltb (address_of low high) size) 8 left more h

  -- ---- a memory function has a slot left

  pub has-slot : (s : SramStage) (left : ℕ) → sram_range s size left ≡ true → 0 < left
  unfolding sram_range
  has-slot WriteLow left h = slot-left 8 left h
  has-slot (WriteHigh low) left h = slot-left 8 left h
  has-slot (WriteData offset bit) left h = slot-left-beside (data_range offset bit) 1 left h
  has-slot (ReadRegister at) left h = slot-left-beside (ltb at 3) 8 left h
  has-slot (ReadScratchpad offset) left h = slot-left-beside (ltb offset 32) 8 left h
  has-slot (CopyPattern at same) left h = slot-left-beside (ltb at 3) 8 left h
  has-slot Copied left h = slot-left 8 left h
  has-slot ReadLow left h = slot-left 8 left h
  has-slot (ReadHigh low) left h = slot-left 8 left h
  has-slot (ReadMemory low high) left h = slot-left-beside (ltb (address_of low high) size) 8 left h

  -- ---- after the last slot of a transfer

  data-ranged : (offset bit : ℕ) → data_range offset bit ≡ true → Ranged size (write_data_bit offset bit)
  unfolding sram_range
  data-ranged offset bit h = ranged (WriteData offset bit) 0xFF 1 (rw h)

  place-ranged : (offset bit : ℕ) → offset < 32 → bit < 8 → data_range offset bit ≡ true
  unfolding data_range
  place-ranged offset bit h k = rw (lt-ltb offset 32 h, lt-ltb bit 8 k)

  -- the place after the last bit of a byte: that of the next byte's first, or the one after offset 31
  next_place : (offset : ℕ) → offset < 32 → data_range (offset + 1) 0 ≡ true
  unfolding data_range
  next_place offset h = choose (ltb (offset + 1) 32) refl
    where
      choose : (t : Bool) → ltb (offset + 1) 32 ≡ t
          → cond t (ltb 0 8) (eqb (offset + 1) 32 && eqb 0 0) ≡ true
      choose true e = refl
      choose false e = rw (eq-eqb (offset + 1) 32 (omega (arith, ltb-false (offset + 1) 32 e)))

  address-whole : (address : ℕ) → address_of (address % 256) (address / 256) ≡ address
  address-whole address = omega arith

  memory-ranged : (address : ℕ) (body : List ℕ) → Ranged size (read_memory address size body)
  unfolding read_memory sram_range
  memory-ranged address body =
      decide (ltb address size)
      (λ t. begins (ReadMemory (address % 256) (address / 256)) (rw (address-whole address, t))) (λ _. waits)

  pub next-ranged : (s : SramStage) (left value : ℕ) (body : List ℕ) → sram_range s size left ≡ true
      → Ranged size (sram_next s size value body)
  unfolding sram_next after_data_bit after_register after_scratchpad after_pattern sram_range
  next-ranged WriteLow left value body h = begins (WriteHigh value) refl
  next-ranged (WriteHigh low) left value body h =
      data-ranged (low % 32) 0 (place-ranged (low % 32) 0 (omega arith) (omega arith))
  next-ranged (WriteData offset bit) left value body h =
      decide (ltb offset 32)
      (λ t. decide (ltb bit 7)
      (λ u. data-ranged offset (bit + 1)
      (place-ranged offset (bit + 1) (ltb-true offset 32 t) (omega (arith, ltb-true bit 7 u))))
      (λ _. data-ranged (offset + 1) 0 (next_place offset (ltb-true offset 32 t))))
      (λ _. data-ranged offset bit (both (data_range offset bit) (under_way 1 left) h).0)
  next-ranged (ReadRegister at) left value body h =
      decide (ltb at 2)
      (λ t. begins (ReadRegister (at + 1)) (rw (lt-ltb (at + 1) 3 (omega (arith, ltb-true at 2 t)))))
      (λ _. begins (ReadScratchpad (target_offset body)) (rw (lt-ltb (target_offset body) 32 (omega arith))))
  next-ranged (ReadScratchpad offset) left value body h =
      decide (ltb offset 31)
      (λ t. begins (ReadScratchpad (offset + 1)) (rw (lt-ltb (offset + 1) 32 (omega (arith, ltb-true offset 31 t)))))
      (λ _. waits)
  next-ranged (CopyPattern at same) left value body h =
      decide (ltb at 2)
      (λ t. begins (CopyPattern (at + 1) _) (rw (lt-ltb (at + 1) 3 (omega (arith, ltb-true at 2 t)))))
      (λ _. decide (pattern_same at same value body) (λ _. begins Copied refl) (λ _. waits))
  next-ranged Copied left value body h = begins Copied refl
  next-ranged ReadLow left value body h = begins (ReadHigh value) refl
  next-ranged (ReadHigh low) left value body h = memory-ranged (address_of low value) body
  next-ranged (ReadMemory low high) left value body h = memory-ranged (address_of low high + 1) body

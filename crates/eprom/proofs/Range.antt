-- The numbers of a transfer stay in the range of its stage: from the memory command on, whatever comes. Assumes
-- nothing.
use Prim.Native.Nat.{ℕ, ◌+◌, ◌-◌, ◌%◌, ◌<◌, ◌≤◌}
use mathlib.Core.Path.{◌≡◌, refl}
use mathlib.Core.Bool.{Bool, true, false, cond}
use mathlib.Core.List.{List}
use native.Mathlib.Omega.{arith}
use lib.Dec.{eqb, ltb, leb}
use borrow.Author.Tests.{lt-ltb, le-leb, ltb-true, eqb-false}
use Rattle.line.specs.Transfers.{waiting, sending, under_way, goes_on, received, shifted}
use Rattle.line.specs.declared.EpromRead.{EpromRead}
use Rattle.line.specs.declared.EpromRead.TheVariants.{Memory as ReadMemory, Status as ReadStatus, Pages as ReadPages}
use Rattle.line.specs.declared.EpromStage.{EpromStage}
use Rattle.line.specs.declared.EpromStage.TheVariants.{ReadLow, ReadHigh, ReadCrc, ReadByte}
use Rattle.line.specs.declared.EpromStage.TheVariants.{WriteLow, WriteHigh, WriteData, WriteCrc, PulseDue, Stored}
use Rattle.line.specs.declared.Transfer.{Transfer}
use Rattle.eprom.specs.Fields.{in_eprom, field_length, field_read, address_of, cut_address}
use Rattle.eprom.specs.Reads.{send_byte, read_latch, after_crc, ends_span, after_byte}
use Rattle.eprom.specs.Writes.{write_latch, after_data_byte, send_stored, next_write_pass}
use Rattle.eprom.specs.Eprom.{eprom_command, eprom_next, eprom_pulse, eprom_range}
use Rattle.line.proofs.Range.{both, fewer, fewer-beside, slot-left, slot-left-beside}
use Rattle.eprom.proofs.Laws.{cut_below}

-- a transfer of a memory function
abbrev pub transfer_in : EpromStage → ℕ → ℕ → Transfer
transfer_in e register left = record { register = register; left = left; stage = in_eprom e }

-- the device waits, or is in a memory function with its numbers in range
pub data Ranged : Transfer → Type 0 where
  waits : Ranged waiting
  ranged : (e : EpromStage) (register left : ℕ) → eprom_range e left ≡ true → Ranged (transfer_in e register left)

-- a test, with what it says on each side
decide : (t : Bool) {a b : Transfer} → (t ≡ true → Ranged a) → (t ≡ false → Ranged b) → Ranged (cond t a b)
decide true f g = f refl
decide false f g = g refl

-- a transfer of eight slots that begins, with no address and with one
begins : {register : ℕ} (e : EpromStage) → eprom_range e 8 ≡ true → Ranged (sending (in_eprom e) register)
begins {register} e h = ranged e register 8 h

-- ---- after a command

pub command-ranged : (value : ℕ) → Ranged (eprom_command value)
unfolding eprom_command eprom_range
command-ranged value =
    decide (eqb value 0xF0) (λ t. begins (ReadLow ReadMemory) refl)
    (λ t. decide (eqb value 0xAA) (λ t. begins (ReadLow ReadStatus) refl)
    (λ t. decide (eqb value 0xC3) (λ t. begins (ReadLow ReadPages) refl)
    (λ t. decide (eqb value 0x0F) (λ t. begins (WriteLow _) refl)
    (λ t. decide (eqb value 0x55) (λ t. begins (WriteLow _) refl) (λ t. waits)))))

-- ---- after the last slot of a transfer

-- a byte that is not the last of its span is not the last of its field
byte-goes_on : (read : EpromRead) (a : ℕ) → a < field_length (field_read read) → ends_span read (a + 1) ≡ false
    → a + 1 < field_length (field_read read)
unfolding ends_span field_read field_length
byte-goes_on ReadMemory a h n = omega (arith, eqb-false (a + 1) 128 n)
byte-goes_on ReadStatus a h n = omega (arith, eqb-false (a + 1) 8 n)
byte-goes_on ReadPages a h n = omega (arith, eqb-false ((a + 1) % 32) 0 n)

after-byte : (read : EpromRead) (a crc : ℕ) (body : List ℕ) → Ranged (after_byte read a crc body)
unfolding after_byte send_byte eprom_range
after-byte read a crc body =
    let n = field_length (field_read read) in
    decide (ltb a n)
    (λ t. decide (ends_span read (a + 1))
    (λ e. begins (ReadCrc read (a + 1)) (rw (le-leb (a + 1) n (let l = ltb-true a n t in omega arith))))
    (λ e. begins (ReadByte read (a + 1) _) (rw (lt-ltb (a + 1) n (byte-goes_on read a (ltb-true a n t) e)))))
    (λ t. waits)

pub next-ranged : (e : EpromStage) (left value : ℕ) (body : List ℕ) → eprom_range e left ≡ true
    → Ranged (eprom_next e value body)
unfolding eprom_next read_latch after_crc send_byte write_latch after_data_byte next_write_pass eprom_range
next-ranged (ReadLow read) left value body h = begins (ReadHigh read value) refl
next-ranged (ReadHigh read low) left value body h =
    let a = cut_address (field_read read) (address_of low value) in
    let n = field_length (field_read read) in
    let k : a ≤ n = omega (arith, cut_below (field_read read) (address_of low value)) in
    begins (ReadCrc read a) (rw (le-leb a n k))
next-ranged (ReadCrc read address) left value body h =
    decide (ltb address (field_length (field_read read))) (λ t. begins (ReadByte read address _) (rw t)) (λ t. waits)
next-ranged (ReadByte read address crc) left value body h = after-byte read address crc body
next-ranged (WriteLow field) left value body h = begins (WriteHigh field value) refl
next-ranged (WriteHigh field low) left value body h =
    begins (WriteData field _ _) (rw (lt-ltb _ _ (cut_below field (address_of low value))))
next-ranged (WriteData field address crc) left value body h =
    begins (WriteCrc field address value) (rw (both (ltb address (field_length field)) (under_way 8 left) h).0)
next-ranged (WriteCrc field address byte) left value body h =
    ranged (PulseDue field address byte) 0xFF 1 (rw (both (ltb address (field_length field)) (under_way 8 left) h).0)
next-ranged (PulseDue field address byte) left value body h = waits
next-ranged (Stored field address) left value body h =
    decide (ltb (address + 1) (field_length field)) (λ t. begins (WriteData field (address + 1) _) (rw t)) (λ t. waits)

-- ---- after any slot

-- one slot less, where more than one is left
pub less-ranged : (e : EpromStage) (left : ℕ) → ltb 1 left ≡ true → eprom_range e left ≡ true
    → eprom_range e (left - 1) ≡ true
unfolding eprom_range
less-ranged (ReadLow read) left more h = fewer 8 left more h
less-ranged (ReadHigh read low) left more h = fewer 8 left more h
less-ranged (ReadCrc read address) left more h =
    fewer-beside (leb address (field_length (field_read read))) 8 left more h
less-ranged (ReadByte read address crc) left more h =
    fewer-beside (ltb address (field_length (field_read read))) 8 left more h
less-ranged (WriteLow field) left more h = fewer 8 left more h
less-ranged (WriteHigh field low) left more h = fewer 8 left more h
less-ranged (WriteData field address crc) left more h = fewer-beside (ltb address (field_length field)) 8 left more h
less-ranged (WriteCrc field address byte) left more h = fewer-beside (ltb address (field_length field)) 8 left more h
less-ranged (PulseDue field address byte) left more h = fewer-beside (ltb address (field_length field)) 1 left more h
less-ranged (Stored field address) left more h = fewer-beside (ltb address (field_length field)) 8 left more h

pub slot-ranged : (e : EpromStage) (register left : ℕ) (body : List ℕ) (level : Bool) → eprom_range e left ≡ true
    → Ranged (cond (goes_on (transfer_in e register left)) (shifted (transfer_in e register left) level)
    (eprom_next e (received (transfer_in e register left) level) body))
slot-ranged e register left body level h =
    let value = received (transfer_in e register left) level in
    decide (ltb 1 left) (λ more. ranged e value (left - 1) (less-ranged e left more h))
    (λ _. next-ranged e left value body h)

-- ---- after any pulse

pub pulse-ranged : (e : EpromStage) (register left : ℕ) (body : List ℕ) → eprom_range e left ≡ true
    → Ranged (eprom_pulse e (transfer_in e register left) body)
unfolding eprom_pulse send_stored eprom_range
pulse-ranged (PulseDue field address byte) register left body h =
    begins (Stored field address) (rw (both (ltb address (field_length field)) (under_way 1 left) h).0)
pulse-ranged e register left body h = ranged e register left h

-- ---- a memory function has a slot left

pub has-slot : (e : EpromStage) (left : ℕ) → eprom_range e left ≡ true → 0 < left
unfolding eprom_range
has-slot (ReadLow read) left h = slot-left 8 left h
has-slot (ReadHigh read low) left h = slot-left 8 left h
has-slot (ReadCrc read address) left h = slot-left-beside (leb address (field_length (field_read read))) 8 left h
has-slot (ReadByte read address crc) left h = slot-left-beside (ltb address (field_length (field_read read))) 8 left h
has-slot (WriteLow field) left h = slot-left 8 left h
has-slot (WriteHigh field low) left h = slot-left 8 left h
has-slot (WriteData field address crc) left h = slot-left-beside (ltb address (field_length field)) 8 left h
has-slot (WriteCrc field address byte) left h = slot-left-beside (ltb address (field_length field)) 8 left h
has-slot (PulseDue field address byte) left h = slot-left-beside (ltb address (field_length field)) 1 left h
has-slot (Stored field address) left h = slot-left-beside (ltb address (field_length field)) 8 left h

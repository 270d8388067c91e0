-- Document 01, 'DS1992/DS1993 memory stage', and document 02, items 3 and 4, are stated here, for the DS1996 as well
-- (item 9): the transfers of the memory functions, which transfer follows which, the body after each, and what a copy
-- did. The memory has `size` bytes. A device that sends ones until a reset is waiting. These definitions do not test
-- the numbers of a stage: the crate `device` sees to it that they are in range and that the body has its kind's size.
use Rattle.std.specs.Prelude.{ℕ, ◌+◌, ◌-◌, ◌*◌, ◌/◌, ◌%◌, Bool, true, cond, not, ◌&&◌, ◌||◌, List, get_or, set, take}
use Rattle.std.specs.Prelude.{drop, ltb, leb, eqb, Option, Some, None}
use Rattle.std.proofs.lemmas.List.Edits.{sets}
use Rattle.bits.specs.Bit.{bit_at, with_bit, put_bit}
use Rattle.kind.specs.Kind.{ta1, ta2, es, scratchpad, memory}
use Rattle.line.specs.declared.SramStage.{SramStage}
use Rattle.line.specs.declared.SramStage.TheVariants.{WriteLow, WriteHigh, WriteData, ReadRegister, ReadScratchpad}
use Rattle.line.specs.declared.SramStage.TheVariants.{CopyPattern, Copied, ReadLow, ReadHigh, ReadMemory}
use Rattle.line.specs.declared.MemoryStage.TheVariants.{Sram}
use Rattle.line.specs.declared.Stage.{Stage}
use Rattle.line.specs.declared.Stage.TheVariants.{Memory}
use Rattle.line.specs.declared.Transfer.{Transfer}
use Rattle.line.specs.Transfers.{waiting, sending, listening, listening_once, under_way}
use Rattle.sram.specs.declared.Written.{Written}

abbrev pub in_sram : SramStage → Stage
in_sram s = Memory (Sram s)

-- ---- the registers of a body

-- An address has two bytes, the low one first; the target address is held in TA1 and TA2.
abbrev pub address_of : ℕ → ℕ → ℕ
address_of low high = low + 256 * high

abbrev pub target_address : List ℕ → ℕ
target_address body = address_of (get_or body ta1 0) (get_or body ta2 0)

-- T4:T0 are the five low bits of the target address, and the ending offset is the five low bits of E/S.
abbrev pub target_offset : List ℕ → ℕ
target_offset body = get_or body ta1 0 % 32

abbrev pub ending_offset : List ℕ → ℕ
ending_offset body = get_or body es 0 % 32

-- TA1 and TA2 load an address exactly as it was sent, also where it is past the end of the memory.
unfoldable pub load_address : ℕ → ℕ → List ℕ → List ℕ
load_address low high body = set (set body ta1 low) ta2 high

-- The flags of E/S are AA in its bit 7, OF in bit 6 and PF in bit 5; each is given here as a bit number of the whole
-- body.
abbrev pub aa : ℕ
aa = 8 * es + 7

abbrev pub of : ℕ
of = 8 * es + 6

abbrev pub pf : ℕ
pf = 8 * es + 5

-- ---- 0Fh write scratchpad: two address bytes, then data bits

-- A data bit is a transfer of one slot, since it acts at once; it goes to bit `bit` of the scratchpad's byte `offset`.
abbrev pub write_data_bit : ℕ → ℕ → Transfer
write_data_bit offset bit = listening_once (in_sram (WriteData offset bit))

-- With the last address bit TA1 and TA2 load, and E/S becomes T4:T0: that is the ending offset, with all flags clear.
unfoldable pub load_target : ℕ → ℕ → List ℕ → List ℕ
load_target low high body = set (load_address low high body) es (low % 32)

-- The first bit of a data byte makes that byte's offset the ending offset; the flags stay.
unfoldable pub begin_byte : ℕ → ℕ → List ℕ → List ℕ
begin_byte offset bit body = cond (eqb bit 0) (set body es (get_or body es 0 / 32 * 32 + offset)) body

-- A data bit goes into the scratchpad, where the other bits of its byte keep their old values.
unfoldable pub store_bit : ℕ → ℕ → List ℕ → Bool → List ℕ
store_bit offset bit body level =
    set body (scratchpad + offset) (with_bit (get_or body (scratchpad + offset) 0) bit level)

-- Once offset 31 is complete, a data bit changes nothing but OF, which it sets.
unfoldable pub write_bit : ℕ → ℕ → List ℕ → Bool → List ℕ
write_bit offset bit body level =
    cond (ltb offset 32) (store_bit offset bit (begin_byte offset bit body) level) (put_bit body of true)

-- After a data bit the next bit of the scratchpad is due; offset 32 means that offset 31 is complete, and stays.
unfoldable pub after_data_bit : ℕ → ℕ → Transfer
after_data_bit offset bit =
    cond (ltb offset 32)
    (cond (ltb bit 7) (write_data_bit offset (bit + 1)) (write_data_bit (offset + 1) 0))
    (write_data_bit offset bit)

-- A reset after 1 to 7 bits of a data byte sets PF, if OF is clear.
unfoldable pub end_data : ℕ → List ℕ → List ℕ
end_data sent body = cond (ltb 0 sent && not (bit_at body of)) (put_bit body pf true) body

-- ---- AAh read scratchpad: TA1, TA2, E/S, then the scratchpad from T4:T0 to offset 31, then ones

abbrev pub read_register : ℕ → List ℕ → Transfer
read_register at body = sending (in_sram (ReadRegister at)) (get_or body (ta1 + at) 0)

abbrev pub read_scratchpad : ℕ → List ℕ → Transfer
read_scratchpad offset body = sending (in_sram (ReadScratchpad offset)) (get_or body (scratchpad + offset) 0)

unfoldable pub after_register : ℕ → List ℕ → Transfer
after_register at body = cond (ltb at 2) (read_register (at + 1) body) (read_scratchpad (target_offset body) body)

unfoldable pub after_scratchpad : ℕ → List ℕ → Transfer
after_scratchpad offset body = cond (ltb offset 31) (read_scratchpad (offset + 1) body) waiting

-- ---- 55h copy scratchpad: a pattern of three bytes, compared with TA1, TA2, E/S

abbrev pub copy_pattern : ℕ → Bool → Transfer
copy_pattern at same = listening (in_sram (CopyPattern at same))

-- This tells whether byte `at` of the pattern and those before it are equal to the registers, flags included. No slot
-- before the pattern's last changes a register, so that after the last the whole pattern has been compared.
unfoldable pub pattern_same : ℕ → Bool → ℕ → List ℕ → Bool
pattern_same at same value body = same && eqb (get_or body (ta1 + at) 0) value

-- After a pattern that is equal to the registers a device sends zeros until a reset; after any other it sends ones.
abbrev pub copy_accepted : Transfer
copy_accepted = sending (in_sram Copied) 0

unfoldable pub after_pattern : ℕ → Bool → Transfer
after_pattern at same = cond (ltb at 2) (copy_pattern (at + 1) same) (cond same copy_accepted waiting)

-- A copy writes the bytes from T4:T0 through the ending offset. It writes none if the ending offset is below T4:T0, or
-- if the target is past memory.
unfoldable pub copy_length : ℕ → List ℕ → ℕ
copy_length size body =
    cond (ltb (ending_offset body) (target_offset body) || leb size (target_address body)) 0
    (ending_offset body + 1 - target_offset body)

-- The bytes that are copied are those of the scratchpad from T4:T0 on.
unfoldable pub copy_bytes : ℕ → List ℕ → List ℕ
copy_bytes size body = take (copy_length size body) (drop (scratchpad + target_offset body) body)

-- The copied bytes go to memory at the target address.
unfoldable pub copy_to_memory : ℕ → List ℕ → List ℕ
copy_to_memory size body = sets body (memory + target_address body) (copy_bytes size body)

-- Document 02, item 4: a copy tells its first address, which is the target address, and the number of bytes that it
-- writes. A copy of nothing tells its target too, and 0.
abbrev pub copy_writes : ℕ → List ℕ → Written
copy_writes size body = record { address = target_address body; bytes = copy_length size body }

abbrev pub copy_made : ℕ → List ℕ → Option Written
copy_made size body = Some (copy_writes size body)

-- No copy and a copy of nothing are different answers, of which neither counts any byte.
unfoldable pub bytes_copied : Option Written → ℕ
bytes_copied None = 0
bytes_copied (Some written) = written.bytes

-- A pattern that is equal to the registers sets AA, also where no byte is written.
unfoldable pub accept_copy : ℕ → List ℕ → List ℕ
accept_copy size body = put_bit (copy_to_memory size body) aa true

unfoldable pub pattern_write : ℕ → Bool → ℕ → List ℕ → List ℕ
pattern_write at same size body = cond (ltb at 2) body (cond same (accept_copy size body) body)

-- A copy is made, and told, with the last byte of a pattern that is equal to the registers.
unfoldable pub pattern_copy : ℕ → Bool → ℕ → List ℕ → Option Written
pattern_copy at same size body = cond (ltb at 2) None (cond same (copy_made size body) None)

-- ---- F0h read memory: two address bytes, then the memory from there, and past its end ones

-- Document 02, item 3, has TA1 and TA2 load with the last address bit (`load_address`), while the ending offset and the
-- flags stay. The stage holds the address of the byte that is sent, so that TA1 and TA2 keep the first address while
-- the read goes on.
abbrev pub memory_at : ℕ → Stage
memory_at address = in_sram (ReadMemory (address % 256) (address / 256))

unfoldable pub read_memory : ℕ → ℕ → List ℕ → Transfer
read_memory address size body =
    cond (ltb address size) (sending (memory_at address) (get_or body (memory + address) 0)) waiting

-- ---- every function

-- After any command that is not one of the four a device waits.
unfoldable pub sram_command : ℕ → List ℕ → Transfer
sram_command value body =
    cond (eqb value 0x0F) (listening (in_sram WriteLow))
    (cond (eqb value 0xAA) (read_register 0 body)
    (cond (eqb value 0x55) (copy_pattern 0 true)
    (cond (eqb value 0xF0) (listening (in_sram ReadLow)) waiting)))

-- When the transfer of a stage ends, in which `value` was received, this transfer follows it.
unfoldable pub sram_next : SramStage → ℕ → ℕ → List ℕ → Transfer
sram_next WriteLow size value body = listening (in_sram (WriteHigh value))
sram_next (WriteHigh low) size value body = write_data_bit (low % 32) 0
sram_next (WriteData offset bit) size value body = after_data_bit offset bit
sram_next (ReadRegister at) size value body = after_register at body
sram_next (ReadScratchpad offset) size value body = after_scratchpad offset body
sram_next (CopyPattern at same) size value body = after_pattern at (pattern_same at same value body)
sram_next Copied size value body = copy_accepted
sram_next ReadLow size value body = listening (in_sram (ReadHigh value))
sram_next (ReadHigh low) size value body = read_memory (address_of low value) size body
sram_next (ReadMemory low high) size value body = read_memory (address_of low high + 1) size body

-- When the transfer of a stage ends, in which `value` was received and whose last slot was at `level`, this is the
-- body.
unfoldable pub sram_write : SramStage → ℕ → ℕ → List ℕ → Bool → List ℕ
sram_write WriteLow size value body level = body
sram_write (WriteHigh low) size value body level = load_target low value body
sram_write (WriteData offset bit) size value body level = write_bit offset bit body level
sram_write (ReadRegister at) size value body level = body
sram_write (ReadScratchpad offset) size value body level = body
sram_write (CopyPattern at same) size value body level =
    pattern_write at (pattern_same at same value body) size body
sram_write Copied size value body level = body
sram_write ReadLow size value body level = body
sram_write (ReadHigh low) size value body level = load_address low value body
sram_write (ReadMemory low high) size value body level = body

-- When the transfer of a stage ends, in which `value` was received, this is what a copy did. Only the end of a copy's
-- pattern makes one.
unfoldable pub sram_copy : SramStage → ℕ → ℕ → List ℕ → Option Written
sram_copy WriteLow size value body = None
sram_copy (WriteHigh low) size value body = None
sram_copy (WriteData offset bit) size value body = None
sram_copy (ReadRegister at) size value body = None
sram_copy (ReadScratchpad offset) size value body = None
sram_copy (CopyPattern at same) size value body = pattern_copy at (pattern_same at same value body) size body
sram_copy Copied size value body = None
sram_copy ReadLow size value body = None
sram_copy (ReadHigh low) size value body = None
sram_copy (ReadMemory low high) size value body = None

-- This is the body after a reset, which changes it only where it cuts off a data byte.
unfoldable pub sram_reset : SramStage → List ℕ → List ℕ
sram_reset WriteLow body = body
sram_reset (WriteHigh low) body = body
sram_reset (WriteData offset bit) body = end_data bit body
sram_reset (ReadRegister at) body = body
sram_reset (ReadScratchpad offset) body = body
sram_reset (CopyPattern at same) body = body
sram_reset Copied body = body
sram_reset ReadLow body = body
sram_reset (ReadHigh low) body = body
sram_reset (ReadMemory low high) body = body

-- ---- the range of a transfer's numbers

-- A data bit has a place in the scratchpad, or it comes after offset 31 is complete.
unfoldable pub data_range : ℕ → ℕ → Bool
data_range offset bit = cond (ltb offset 32) (ltb bit 8) (eqb offset 32 && eqb bit 0)

-- The numbers of a stage are in range if they name one of three registers, of 32 offsets or of `size` bytes of memory.
unfoldable pub sram_range : SramStage → ℕ → ℕ → Bool
sram_range WriteLow size left = under_way 8 left
sram_range (WriteHigh low) size left = under_way 8 left
sram_range (WriteData offset bit) size left = data_range offset bit && under_way 1 left
sram_range (ReadRegister at) size left = ltb at 3 && under_way 8 left
sram_range (ReadScratchpad offset) size left = ltb offset 32 && under_way 8 left
sram_range (CopyPattern at same) size left = ltb at 3 && under_way 8 left
sram_range Copied size left = under_way 8 left
sram_range ReadLow size left = under_way 8 left
sram_range (ReadHigh low) size left = under_way 8 left
sram_range (ReadMemory low high) size left = ltb (address_of low high) size && under_way 8 left

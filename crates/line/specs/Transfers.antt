-- Document 01, 'The trace and its levels' and 'ROM stage', is stated here in a picture of our own: a device on the line
-- goes by transfers of 1 to 8 slots, a word that the document does not use. Bits go least significant first, so in each
-- slot a device sends the lowest bit of its shift register, and the level of the line comes in at the register's top. A
-- device that listens sends ones meanwhile. `left` counts the slots left of the transfer.
--
-- The stages are the enums of `src/lib.rt`. The table names their numbers, each with its range, which `rom_range`,
-- `sram_range` and `eprom_range` of the crates above test together with the range of `left`.
--
-- ROM stage
--   Waiting                       no number; no slot is left, and the register is full of ones
--   Command                       no number; up to 8 slots
--   Read byte                     the byte of the code that is sent, below 8; up to 8 slots
--   Match at                      the bit of the code that is compared, below 64; 1 slot
--   Search at                     the bit of the code that is searched, below 64; up to 3 slots
--   OverdriveMatch at before      the bit of the code that is compared at overdrive, below 64; whether the device was
--                                 at overdrive before the command; 1 slot
-- Memory stage, any kind, where the battery is not flat
--   Command                       as in the ROM stage
-- Memory stage, DS1992, DS1993 and DS1996; up to 8 slots unless another number is named
--   WriteLow                      no number
--   WriteHigh low                 the low byte of the address
--   WriteData offset bit          the place of the next data bit: offset below 32 and bit below 8, or offset 32 and
--                                 bit 0 once offset 31 is complete; 1 slot
--   ReadRegister at               which of TA1, TA2, E/S is sent, below 3
--   ReadScratchpad offset         the byte of the scratchpad that is sent, below 32
--   CopyPattern at same           pattern bytes received, below 3; whether all of them were those of the registers
--   Copied                        no number
--   ReadLow, ReadHigh low         as WriteLow and WriteHigh
--   ReadMemory low high           the address of the byte that is sent, inside the memory
-- Memory stage, DS1982; up to 8 slots unless another number is named
--   ReadLow read, WriteLow field  which read, or which field
--   ReadHigh, WriteHigh .. low    the low byte of the address
--   ReadCrc read address          the byte that follows the CRC, at most the field's length
--   ReadByte read address crc     the byte that is sent, inside its field; the CRC up to it
--   WriteData field address crc   the address, inside the field; the CRC generator's register before the data byte
--   WriteCrc field address byte   the address, inside the field; the data byte
--   PulseDue field address byte   the same; 1 slot
--   Stored field address          the address, inside the field
use Rattle.std.specs.Prelude.{ℕ, ◌-◌, Bool, ◌&&◌, eqb, ltb, leb}
use Rattle.bits.specs.Bit.{bit_of, shift_in}
use Rattle.line.specs.declared.RomStage.TheVariants.{Waiting, Command}
use Rattle.line.specs.declared.MemoryStage.TheVariants.{Command as MemoryCommand}
use Rattle.line.specs.declared.Stage.{Stage}
use Rattle.line.specs.declared.Stage.TheVariants.{Rom, Memory}
use Rattle.line.specs.declared.Transfer.{Transfer}

-- ---- transfers

-- A device that waits has no transfer under way: it waits for a reset and answers 1.
abbrev pub waiting : Transfer
waiting = record { register = 0xFF; left = 0; stage = Rom Waiting }

-- A byte is sent in eight slots.
abbrev pub sending : Stage → ℕ → Transfer
sending stage byte = record { register = byte; left = 8; stage = stage }

-- A byte is received in eight slots, in which the device sends ones.
abbrev pub listening : Stage → Transfer
listening stage = sending stage 0xFF

-- A single bit is received in one slot, in which the device sends a one.
abbrev pub listening_once : Stage → Transfer
listening_once stage = record { register = 0xFF; left = 1; stage = stage }

-- A reset puts each device at the ROM command, which has 8 bits.
abbrev pub at_rom_command : Transfer
at_rom_command = listening (Rom Command)

-- Skip, or the end of the 64 bits, leads to the memory command.
abbrev pub at_memory_command : Transfer
at_memory_command = listening (Memory MemoryCommand)

-- While a transfer of `slots` slots is under way, at least one slot is left of it, and no more than it has.
abbrev pub under_way : ℕ → ℕ → Bool
under_way slots left = ltb 0 left && leb left slots

-- ---- a slot

-- A device sends the lowest bit of its register.
unfoldable pub transfer_sends : Transfer → Bool
transfer_sends transfer = bit_of transfer.register 0

-- A transfer goes on if slots are left of it after the next one.
abbrev pub goes_on : Transfer → Bool
goes_on transfer = ltb 1 transfer.left

-- The next slot is the last of the transfer if one is left.
abbrev pub last_slot : Transfer → Bool
last_slot transfer = eqb transfer.left 1

-- A slot shifts the level of the line into the register; after eight slots it holds the byte that their levels spell.
abbrev pub received : Transfer → Bool → ℕ
received transfer level = shift_in transfer.register level

-- This is the same transfer after a slot at a level of the line.
abbrev pub shifted : Transfer → Bool → Transfer
shifted transfer level =
    record { register = received transfer level; left = transfer.left - 1; stage = transfer.stage }

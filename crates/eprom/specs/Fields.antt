-- Document 01, 'The image' and 'DS1982 memory stage', is stated here for the two fields of a DS1982: the commands that
-- read and write them, and the addresses in them.
use Rattle.std.specs.Prelude.{ℕ, ◌+◌, ◌*◌, ◌/◌, ◌%◌, List, [], ◌∷◌, get_or}
use Rattle.bits.specs.Crc.{crc_of}
use Rattle.kind.specs.Kind.{status, «data», status_length, data_length}
use Rattle.line.specs.declared.Field.{Field}
use Rattle.line.specs.declared.Field.TheVariants.{Data, Status}
use Rattle.line.specs.declared.EpromRead.{EpromRead}
use Rattle.line.specs.declared.EpromRead.TheVariants.{Memory as ReadMemory, Status as ReadStatus, Pages as ReadPages}
use Rattle.line.specs.declared.EpromStage.{EpromStage}
use Rattle.line.specs.declared.MemoryStage.TheVariants.{Eprom}
use Rattle.line.specs.declared.Stage.{Stage}
use Rattle.line.specs.declared.Stage.TheVariants.{Memory}

-- A stage of a DS1982's memory function is a stage of a device.
abbrev pub in_eprom : EpromStage → Stage
in_eprom e = Memory (Eprom e)

-- Document 01, 'The image', gives a field's first byte in the body and its length.
unfoldable pub field_start : Field → ℕ
field_start Data = «data»
field_start Status = status

unfoldable pub field_length : Field → ℕ
field_length Data = data_length
field_length Status = status_length

-- A body has its 8 code bytes and the two fields, with the data last.
abbrev pub body_length : ℕ
body_length = «data» + data_length

-- This is the byte of a field at an address.
unfoldable pub stored_byte : Field → ℕ → List ℕ → ℕ
stored_byte field address body = get_or body (field_start field + address) 0

-- Document 01, 'DS1982 memory stage', has F0h and C3h read the data, and AAh the status.
unfoldable pub field_read : EpromRead → Field
field_read ReadMemory = Data
field_read ReadStatus = Status
field_read ReadPages = Data

unfoldable pub read_command : EpromRead → ℕ
read_command ReadMemory = 0xF0
read_command ReadStatus = 0xAA
read_command ReadPages = 0xC3

-- The command 0Fh writes the data, and 55h the status.
unfoldable pub write_command : Field → ℕ
write_command Data = 0x0F
write_command Status = 0x55

-- The two bytes of an address are received with the low one first.
abbrev pub address_of : ℕ → ℕ → ℕ
address_of low high = low + 256 * high

-- An address is cut as it is latched: a data address keeps its low 7 bits, a status address its low 3.
unfoldable pub cut_address : Field → ℕ → ℕ
cut_address field address = address % field_length field

-- This is the CRC of a command and of the two bytes of an address, which is the cut one.
unfoldable pub command_crc : ℕ → ℕ → ℕ
command_crc command address = crc_of (command ∷ address % 256 ∷ address / 256 ∷ [])

-- Document 01, 'DS1982 memory stage', is stated here for the reads F0h, AAh and C3h: their transfers, and which follows
-- which. A device that sends ones until a reset is waiting.
use Rattle.std.specs.Prelude.{ℕ, ◌+◌, ◌%◌, Bool, cond, List, ltb, eqb}
use Rattle.bits.specs.Crc.{crc_byte}
use Rattle.kind.specs.Kind.{status_length, data_length, page_length}
use Rattle.line.specs.Transfers.{waiting, sending, listening}
use Rattle.line.specs.declared.EpromRead.{EpromRead}
use Rattle.line.specs.declared.EpromRead.TheVariants.{Memory as ReadMemory, Status as ReadStatus, Pages as ReadPages}
use Rattle.line.specs.declared.EpromStage.TheVariants.{ReadLow, ReadHigh, ReadCrc, ReadByte}
use Rattle.line.specs.declared.Transfer.{Transfer}
use Rattle.eprom.specs.Fields.{in_eprom, field_length, stored_byte, field_read, read_command, cut_address, command_crc}

-- The two bytes of the address follow the command.
abbrev pub read_low : EpromRead → Transfer
read_low read = listening (in_eprom (ReadLow read))

abbrev pub read_high : EpromRead → ℕ → Transfer
read_high read low = listening (in_eprom (ReadHigh read low))

-- A CRC is sent; `address` is that of the byte after it.
abbrev pub send_crc : EpromRead → ℕ → ℕ → Transfer
send_crc read address crc = sending (in_eprom (ReadCrc read address)) crc

-- The byte at `address` is sent; `crc` is the CRC of those before it, and the stage holds the CRC with this byte
-- shifted in.
unfoldable pub send_byte : EpromRead → ℕ → ℕ → List ℕ → Transfer
send_byte read address crc body =
    let byte = stored_byte (field_read read) address body in
    sending (in_eprom (ReadByte read address (crc_byte crc byte))) byte

-- The address is cut as it is latched, and the CRC of the command and the cut address is sent first.
unfoldable pub read_latch : EpromRead → ℕ → Transfer
read_latch read address =
    let start = cut_address (field_read read) address in
    send_crc read start (command_crc (read_command read) start)

-- After a CRC come the bytes from `address` on, with a CRC of their own; past the field's end come ones.
unfoldable pub after_crc : EpromRead → ℕ → List ℕ → Transfer
after_crc read address body =
    cond (ltb address (field_length (field_read read))) (send_byte read address 0 body) waiting

-- A CRC comes where the next byte would be past the field's end, or with C3h past the page's.
unfoldable pub ends_span : EpromRead → ℕ → Bool
ends_span ReadMemory next = eqb next data_length
ends_span ReadStatus next = eqb next status_length
ends_span ReadPages next = eqb (next % page_length) 0

-- After a byte comes the next one, or the CRC of the bytes since the last CRC. An address outside its field, which no
-- read comes to, makes the device wait.
unfoldable pub after_byte : EpromRead → ℕ → ℕ → List ℕ → Transfer
after_byte read address crc body =
    cond (ltb address (field_length (field_read read)))
    (cond (ends_span read (address + 1)) (send_crc read (address + 1) crc) (send_byte read (address + 1) crc body))
    waiting

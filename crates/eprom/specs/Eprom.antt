-- Document 01, 'DS1982 memory stage', is stated here: which transfer a memory command begins, which one follows after
-- the last slot of a transfer, what a program pulse does, and the range of each stage's numbers. These definitions do
-- not test the numbers of a stage: the crate `device` sees to it that they are in range and that the body has 144
-- bytes.
use Rattle.std.specs.Prelude.{ℕ, Bool, cond, ◌&&◌, List, ltb, leb, eqb}
use Rattle.line.specs.Transfers.{waiting, under_way}
use Rattle.line.specs.declared.Field.TheVariants.{Data, Status}
use Rattle.line.specs.declared.EpromRead.TheVariants.{Memory as ReadMemory, Status as ReadStatus, Pages as ReadPages}
use Rattle.line.specs.declared.EpromStage.{EpromStage}
use Rattle.line.specs.declared.EpromStage.TheVariants.{ReadLow, ReadHigh, ReadCrc, ReadByte, WriteLow, WriteHigh}
use Rattle.line.specs.declared.EpromStage.TheVariants.{WriteData, WriteCrc, PulseDue, Stored}
use Rattle.line.specs.declared.Transfer.{Transfer}
use Rattle.eprom.specs.Fields.{field_length, field_read, address_of}
use Rattle.eprom.specs.Reads.{read_low, read_high, read_latch, after_crc, after_byte}
use Rattle.eprom.specs.Writes.{write_low, write_high, write_latch, after_data_byte, await_pulse, programmed_body}
use Rattle.eprom.specs.Writes.{send_stored}
use Rattle.eprom.specs.Writes.{next_write_pass}

-- A memory command leads to the first transfer of its function; one that is not listed makes the device wait.
unfoldable pub eprom_command : ℕ → Transfer
eprom_command value =
    cond (eqb value 0xF0) (read_low ReadMemory)
    (cond (eqb value 0xAA) (read_low ReadStatus)
    (cond (eqb value 0xC3) (read_low ReadPages)
    (cond (eqb value 0x0F) (write_low Data)
    (cond (eqb value 0x55) (write_low Status) waiting))))

-- When the transfer of a stage ends, in which `value` was received, this transfer follows it. A slot where a pulse is
-- due makes the device wait.
unfoldable pub eprom_next : EpromStage → ℕ → List ℕ → Transfer
eprom_next (ReadLow read) value body = read_high read value
eprom_next (ReadHigh read low) value body = read_latch read (address_of low value)
eprom_next (ReadCrc read address) value body = after_crc read address body
eprom_next (ReadByte read address crc) value body = after_byte read address crc body
eprom_next (WriteLow field) value body = write_high field value
eprom_next (WriteHigh field low) value body = write_latch field (address_of low value)
eprom_next (WriteData field address crc) value body = after_data_byte field address crc value
eprom_next (WriteCrc field address byte) value body = await_pulse field address byte
eprom_next (PulseDue field address byte) value body = waiting
eprom_next (Stored field address) value body = next_write_pass field address

-- After a pulse where one is due, the device sends the byte as it is then stored; elsewhere a pulse does nothing.
unfoldable pub eprom_pulse : EpromStage → Transfer → List ℕ → Transfer
eprom_pulse (ReadLow read) transfer body = transfer
eprom_pulse (ReadHigh read low) transfer body = transfer
eprom_pulse (ReadCrc read address) transfer body = transfer
eprom_pulse (ReadByte read address crc) transfer body = transfer
eprom_pulse (WriteLow field) transfer body = transfer
eprom_pulse (WriteHigh field low) transfer body = transfer
eprom_pulse (WriteData field address crc) transfer body = transfer
eprom_pulse (WriteCrc field address byte) transfer body = transfer
eprom_pulse (PulseDue field address byte) transfer body =
    send_stored field address (programmed_body field address byte body)
eprom_pulse (Stored field address) transfer body = transfer

-- A program pulse changes the body only where one is due.
unfoldable pub eprom_program : EpromStage → List ℕ → List ℕ
eprom_program (ReadLow read) body = body
eprom_program (ReadHigh read low) body = body
eprom_program (ReadCrc read address) body = body
eprom_program (ReadByte read address crc) body = body
eprom_program (WriteLow field) body = body
eprom_program (WriteHigh field low) body = body
eprom_program (WriteData field address crc) body = body
eprom_program (WriteCrc field address byte) body = body
eprom_program (PulseDue field address byte) body = programmed_body field address byte body
eprom_program (Stored field address) body = body

-- The numbers of a stage are in range if the address lies inside its field; the address after a CRC may be the field's
-- end.
unfoldable pub eprom_range : EpromStage → ℕ → Bool
eprom_range (ReadLow read) left = under_way 8 left
eprom_range (ReadHigh read low) left = under_way 8 left
eprom_range (ReadCrc read address) left = leb address (field_length (field_read read)) && under_way 8 left
eprom_range (ReadByte read address crc) left = ltb address (field_length (field_read read)) && under_way 8 left
eprom_range (WriteLow field) left = under_way 8 left
eprom_range (WriteHigh field low) left = under_way 8 left
eprom_range (WriteData field address crc) left = ltb address (field_length field) && under_way 8 left
eprom_range (WriteCrc field address byte) left = ltb address (field_length field) && under_way 8 left
eprom_range (PulseDue field address byte) left = ltb address (field_length field) && under_way 1 left
eprom_range (Stored field address) left = ltb address (field_length field) && under_way 8 left

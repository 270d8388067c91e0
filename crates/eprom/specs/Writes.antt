-- Document 01, 'DS1982 memory stage', is stated here for the writes 0Fh and 55h: their transfers, which follows which,
-- and what a program pulse changes.
use Rattle.std.specs.Prelude.{ℕ, ◌+◌, ◌/◌, Bool, false, cond, not, List, set, ltb}
use Rattle.std.specs.Int.Bits.{bit_and}
use Rattle.bits.specs.Bit.{bit_of}
use Rattle.bits.specs.Crc.{crc_byte}
use Rattle.kind.specs.Kind.{page_length}
use Rattle.line.specs.Transfers.{waiting, sending, listening, listening_once}
use Rattle.line.specs.declared.Field.{Field}
use Rattle.line.specs.declared.Field.TheVariants.{Data, Status}
use Rattle.line.specs.declared.EpromStage.TheVariants.{WriteLow, WriteHigh, WriteData, WriteCrc, PulseDue, Stored}
use Rattle.line.specs.declared.Transfer.{Transfer}
use Rattle.eprom.specs.Fields.{in_eprom, field_start, field_length, stored_byte, write_command, cut_address}
use Rattle.eprom.specs.Fields.{command_crc}

-- The two bytes of the address follow the command.
abbrev pub write_low : Field → Transfer
write_low field = listening (in_eprom (WriteLow field))

abbrev pub write_high : Field → ℕ → Transfer
write_high field low = listening (in_eprom (WriteHigh field low))

-- A data byte is received; `crc` is the register that it is shifted into.
abbrev pub write_data_byte : Field → ℕ → ℕ → Transfer
write_data_byte field address crc = listening (in_eprom (WriteData field address crc))

-- The address is cut as it is latched. On the first pass the command and the cut address were shifted into the
-- register.
unfoldable pub write_latch : Field → ℕ → Transfer
write_latch field address =
    let start = cut_address field address in
    write_data_byte field start (command_crc (write_command field) start)

-- The data byte is shifted into the register, and the CRC is sent.
unfoldable pub after_data_byte : Field → ℕ → ℕ → ℕ → Transfer
after_data_byte field address crc byte = sending (in_eprom (WriteCrc field address byte)) (crc_byte crc byte)

-- After the CRC a pulse is due; a slot that comes instead is answered 1.
abbrev pub await_pulse : Field → ℕ → ℕ → Transfer
await_pulse field address byte = listening_once (in_eprom (PulseDue field address byte))

-- Page p of the data is protected while bit p of status byte 0 is 0; status bytes have no protection.
unfoldable pub page_protected : Field → ℕ → List ℕ → Bool
page_protected Data address body = not (bit_of (stored_byte Status 0 body) (address / page_length))
page_protected Status address body = false

-- A pulse replaces the byte at an address by its AND with the data byte; in a protected page the byte stays as it was.
unfoldable pub programmed_byte : Field → ℕ → ℕ → List ℕ → ℕ
programmed_byte field address byte body =
    cond (page_protected field address body) (stored_byte field address body)
    (bit_and (stored_byte field address body) byte)

-- A pulse leaves the body with the programmed byte in its place.
unfoldable pub programmed_body : Field → ℕ → ℕ → List ℕ → List ℕ
programmed_body field address byte body =
    set body (field_start field + address) (programmed_byte field address byte body)

-- After a pulse the device sends the stored byte.
unfoldable pub send_stored : Field → ℕ → List ℕ → Transfer
send_stored field address body = sending (in_eprom (Stored field address)) (stored_byte field address body)

-- After the stored byte the address rises by one, and the register for the next data byte is loaded with the new
-- address's low byte, which is all of it. After the field's last address the device waits.
unfoldable pub next_write_pass : Field → ℕ → Transfer
next_write_pass field address =
    cond (ltb (address + 1) (field_length field)) (write_data_byte field (address + 1) (address + 1)) waiting

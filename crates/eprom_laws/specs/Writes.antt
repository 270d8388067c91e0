-- Document 01, 'DS1982 memory stage', is stated here for a write of several bytes, each with its pulse.
use Rattle.std.specs.Prelude.{ℕ, ◌+◌, ◌/◌, ◌%◌, ◌<◌, List, [], ◌∷◌, ◌++◌, length}
use Rattle.bits.specs.Crc.{crc_from, crc_of}
use Rattle.line.specs.declared.Field.{Field}
use Rattle.line.specs.declared.Transfer.{Transfer}
use Rattle.eprom.specs.Fields.{write_command, stored_byte, command_crc}
use Rattle.eprom.specs.Writes.{write_data_byte, programmed_body, next_write_pass}
use Rattle.eprom_laws.specs.Events.{Exchange, byte, programs}

-- A byte that is written comes with what the line has while the device sends its CRC and the stored byte.
pub record WrittenByte : Type 0 where
  pub value : ℕ
  pub fits : value < 256
  pub line_at_crc : ℕ
  pub line_at_stored : ℕ

-- A pass is the data byte, its CRC, the pulse and the stored byte.
unfoldable pub write_exchanges : List WrittenByte → List Exchange
write_exchanges [] = []
write_exchanges (w ∷ ws) =
    byte w.value ∷ byte w.line_at_crc ∷ programs ∷ byte w.line_at_stored ∷ write_exchanges ws

-- On the first pass the CRC is that of command, address and data.
abbrev pub first_crc : Field → ℕ → ℕ → ℕ
first_crc field address value = crc_of (write_command field ∷ address % 256 ∷ address / 256 ∷ value ∷ [])

-- On each later pass the CRC is that of the data, with a register that was loaded with the new address's low byte.
abbrev pub next_crc : ℕ → ℕ → ℕ
next_crc address value = crc_from (address % 256) (value ∷ [])

-- In a pass the device sends ones, the CRC, and the byte as it is stored then.
abbrev pub bytes_of_pass : Field → ℕ → ℕ → ℕ → List ℕ → List ℕ
bytes_of_pass field address crc value body =
    0xFF ∷ crc ∷ stored_byte field address (programmed_body field address value body) ∷ []

unfoldable pub bytes_of_later_passes : Field → ℕ → List WrittenByte → List ℕ → List ℕ
bytes_of_later_passes field address [] body = []
bytes_of_later_passes field address (w ∷ ws) body =
    bytes_of_pass field address (next_crc address w.value) w.value body
    ++ bytes_of_later_passes field (address + 1) ws (programmed_body field address w.value body)

-- These are the bytes that the device sends in all passes, from the start address on, which is the cut one.
unfoldable pub bytes_of_write : Field → ℕ → List WrittenByte → List ℕ → List ℕ
bytes_of_write field address [] body = []
bytes_of_write field address (w ∷ ws) body =
    bytes_of_pass field address (first_crc field address w.value) w.value body
    ++ bytes_of_later_passes field (address + 1) ws (programmed_body field address w.value body)

-- This is the body after all passes.
unfoldable pub write_body : Field → ℕ → List WrittenByte → List ℕ → List ℕ
write_body field address [] body = body
write_body field address (w ∷ ws) body = write_body field (address + 1) ws (programmed_body field address w.value body)

-- After all passes the transfer is that of the next pass; after the last address there is none, as the device waits.
unfoldable pub write_transfer : Field → ℕ → List WrittenByte → Transfer
write_transfer field address [] = write_data_byte field address (command_crc (write_command field) address)
write_transfer field address (w ∷ ws) = next_write_pass field (address + length ws)

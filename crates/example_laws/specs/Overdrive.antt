-- Document 02, item 9, is stated here as rows of the table: the DS1996 and overdrive.
use Rattle.std.specs.Prelude.{ℕ, List, [], ◌∷◌, ◌++◌}
use Rattle.line.specs.Transfers.{at_rom_command}
use Rattle.example_laws.specs.Session.{SessionStep, reset, pulse, write, write_bits, read, skip}
use Rattle.example_laws.specs.Session.{overdrive_reset, unheard_reset, overdrive_write, overdrive_write_bits}
use Rattle.example_laws.specs.Session.{overdrive_read}
use Rattle.example_laws.specs.Images.{ds1992_code, ds1996_code, other_ds1996_code, zeros, ones, sram_body, no_device}
use Rattle.example_laws.specs.Images.{ds1992, ds1996, ds1982, blank_ds1992, blank_ds1993, blank_ds1996}
use Rattle.example_laws.specs.Images.{ds1992_and_ds1996, one_flat, placed, two_bytes}
use Rattle.example_laws.specs.Row.{Row, run, refused, copying, session}

-- After overdrive skip the device is at the memory command, at overdrive, and these bytes come there.
abbrev pub overdrive_skip : List ℕ → List SessionStep
overdrive_skip bytes = reset ∷ write (0x3C ∷ []) ∷ overdrive_write bytes ∷ []

-- After an overdrive reset and skip ROM, read scratchpad sends these bytes, all at overdrive.
abbrev pub overdrive_read_back : List ℕ → List SessionStep
overdrive_read_back bytes = overdrive_reset ∷ overdrive_write (0xCC ∷ 0xAA ∷ []) ∷ overdrive_read bytes ∷ []

-- A DS1996 has this E/S after A1h and three bits more for the target 0026h.
abbrev pub part_written : ℕ → List ℕ
part_written es = ds1996 (0x26 ∷ 0x00 ∷ es ∷ []) (placed 6 (0xA1 ∷ 0x05 ∷ []) (zeros 32)) (zeros 8192)

abbrev pub part_write : List SessionStep
part_write = overdrive_skip (0x0F ∷ 0x26 ∷ 0x00 ∷ 0xA1 ∷ []) ++ overdrive_write_bits 3 0x05 ∷ []

-- ---- speed

-- After 3Ch a write and, after an overdrive reset, a copy of two bytes at overdrive.
abbrev pub overdrive_copy : Row
overdrive_copy =
    copying blank_ds1996
    (overdrive_skip (0x0F ∷ 0x26 ∷ 0x00 ∷ 0xA1 ∷ 0xA2 ∷ [])
    ++ overdrive_reset
    ∷ overdrive_write (0xCC ∷ 0x55 ∷ 0x26 ∷ 0x00 ∷ 0x07 ∷ [])
    ∷ overdrive_read (0x00 ∷ [])
    ∷ [])
    (ds1996 (0x26 ∷ 0x00 ∷ 0x87 ∷ []) two_bytes (placed 0x26 (0xA1 ∷ 0xA2 ∷ []) (zeros 8192)))
    2

-- The code after 69h comes at overdrive; it matches from regular speed, and again from overdrive.
abbrev pub overdrive_matched : Row
overdrive_matched =
    session blank_ds1996
    (reset
    ∷ write (0x69 ∷ [])
    ∷ overdrive_write (ds1996_code ++ 0xAA ∷ [])
    ∷ overdrive_read (zeros 3)
    ∷ overdrive_reset
    ∷ overdrive_write (0x69 ∷ ds1996_code ++ 0xAA ∷ [])
    ∷ overdrive_read (zeros 3)
    ∷ [])
    blank_ds1996

-- A device that fails the match from regular speed waits there, and does not hear an overdrive reset.
abbrev pub mismatch_from_regular : Row
mismatch_from_regular =
    session blank_ds1996
    (reset ∷ write (0x69 ∷ []) ∷ overdrive_write other_ds1996_code ∷ unheard_reset ∷ overdrive_read (0xFF ∷ []) ∷ [])
    blank_ds1996

-- One that was at overdrive before waits at overdrive, and hears it.
abbrev pub mismatch_from_overdrive : Row
mismatch_from_overdrive =
    session blank_ds1996
    (reset
    ∷ write (0x3C ∷ [])
    ∷ overdrive_reset
    ∷ overdrive_write (0x69 ∷ other_ds1996_code)
    ∷ overdrive_read (0xFF ∷ [])
    ∷ overdrive_read_back (zeros 3))
    blank_ds1996

-- In a regular slot a device at overdrive answers 1; then it waits for a regular reset, deaf to overdrive. It had
-- received three bits of a data byte, and PF stays as it was.
abbrev pub fallen_back : Row
fallen_back =
    session blank_ds1996
    (part_write ++ write_bits 1 1 ∷ unheard_reset ∷ overdrive_read (0xFF ∷ []) ∷ []) (part_written 0x07)

-- An overdrive reset after three bits of a data byte sets PF, and so does a regular reset.
abbrev pub cut_by_overdrive_reset : Row
cut_by_overdrive_reset =
    session blank_ds1996 (part_write ++ overdrive_read_back (0x26 ∷ 0x00 ∷ 0x27 ∷ 0xA1 ∷ 0x05 ∷ [])) (part_written 0x27)

abbrev pub cut_by_regular_reset : Row
cut_by_regular_reset = session blank_ds1996 part_write (part_written 0x27)

-- ---- hearing

-- A DS1992 that is blank stands beside a DS1996 with these registers and this scratchpad.
abbrev pub beside_ds1992 : List ℕ → List ℕ → List ℕ
beside_ds1992 registers scratchpad =
    ds1992_and_ds1996 (sram_body ds1992_code (zeros 3) (zeros 32) (zeros 128))
    (sram_body ds1996_code registers scratchpad (zeros 8192))

-- Beside a DS1992 only the DS1996 goes to overdrive and takes the write; the regular reset returns it.
abbrev pub side_by_side : Row
side_by_side =
    session (beside_ds1992 (zeros 3) (zeros 32))
    (overdrive_skip (0x0F ∷ 0x26 ∷ 0x00 ∷ 0xA1 ∷ 0xA2 ∷ [])
    ++ overdrive_reset
    ∷ reset
    ∷ write (0x55 ∷ ds1992_code)
    ∷ write (0xAA ∷ [])
    ∷ read (zeros 3)
    ∷ [])
    (beside_ds1992 (0x26 ∷ 0x00 ∷ 0x07 ∷ []) two_bytes)

abbrev pub unheard_rows : List Row
unheard_rows =
    -- Where no device hears them, 4 is answered 0, 5 and 6 are answered 1, as with no device.
    run blank_ds1992 (2 ∷ 4 ∷ 5 ∷ 6 ∷ []) (0 ∷ 0 ∷ 1 ∷ 1 ∷ []) blank_ds1992 at_rom_command 0
    ∷ run no_device (2 ∷ 4 ∷ 5 ∷ 6 ∷ []) (1 ∷ 0 ∷ 1 ∷ 1 ∷ []) no_device at_rom_command 0
    -- They change nothing in the middle of a function, and a pulse that is due stays due.
    ∷ session blank_ds1992
    (skip (0x0F ∷ []) ++ overdrive_write (0xA5 ∷ []) ∷ unheard_reset ∷ write (0x26 ∷ 0x00 ∷ []) ∷ [])
    (ds1992 (0x26 ∷ 0x00 ∷ 0x06 ∷ []) (zeros 32) (zeros 128))
    ∷ session (ds1982 (ones 8) (placed 5 (0x3C ∷ []) (ones 128)))
    (skip (0x0F ∷ 0x85 ∷ 0x00 ∷ 0xF0 ∷ [])
    ++ read (0xDB ∷ [])
    ∷ overdrive_write (0xA5 ∷ [])
    ∷ unheard_reset
    ∷ pulse
    ∷ read (0x30 ∷ [])
    ∷ [])
    (ds1982 (ones 8) (placed 5 (0x30 ∷ []) (ones 128)))
    -- For a DS1993 3Ch is an unknown command.
    ∷ session blank_ds1993 (reset ∷ write (0x3C ∷ []) ∷ unheard_reset ∷ read (0xFF ∷ []) ∷ []) blank_ds1993
    ∷ []

-- ---- memory, a flat battery, refusals

-- A DS1996 with a flat battery is blank.
abbrev pub flat_ds1996 : List ℕ
flat_ds1996 = one_flat 0x0C (sram_body ds1996_code (zeros 3) (zeros 32) (zeros 8192))

-- A DS1996 has this target and 5Ah in its last byte; a read leaves its address as the target.
abbrev pub last_of8192 : ℕ → ℕ → List ℕ
last_of8192 low high = ds1996 (low ∷ high ∷ 0x00 ∷ []) (zeros 32) (placed 0x1FFF (0x5A ∷ []) (zeros 8192))

-- Its memory ends at 1FFFh.
abbrev pub read_last_of8192 : Row
read_last_of8192 =
    session (last_of8192 0x00 0x00) (skip (0xF0 ∷ 0xFF ∷ 0x1F ∷ []) ++ read (0x5A ∷ 0xFF ∷ []) ∷ [])
    (last_of8192 0xFF 0x1F)

-- With a flat battery it goes to overdrive after 3Ch and waits there.
abbrev pub flat_at_overdrive : Row
flat_at_overdrive =
    session flat_ds1996
    (overdrive_skip (0x0F ∷ 0x26 ∷ 0x00 ∷ [])
    ++ overdrive_reset
    ∷ overdrive_write (0x33 ∷ [])
    ∷ overdrive_read ds1996_code
    ∷ overdrive_read (0xFF ∷ [])
    ∷ [])
    flat_ds1996

abbrev pub refused_rows : List Row
refused_rows =
    -- A byte over 6 is a 5, a trace that begins with an overdrive reset an 11, and a pulse on a DS1996 a 6.
    refused blank_ds1992 (2 ∷ 7 ∷ []) 5
    ∷ refused blank_ds1996 (6 ∷ []) 11
    ∷ refused blank_ds1996 (2 ∷ 3 ∷ []) 6
    ∷ []

abbrev pub overdrive_rows : List Row
overdrive_rows =
    overdrive_copy ∷ overdrive_matched ∷ mismatch_from_regular ∷ mismatch_from_overdrive ∷ fallen_back
    ∷ cut_by_overdrive_reset ∷ cut_by_regular_reset ∷ side_by_side ∷ read_last_of8192 ∷ flat_at_overdrive
    ∷ unheard_rows ++ refused_rows

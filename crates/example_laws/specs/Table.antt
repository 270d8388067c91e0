-- Document 01, 'Shop-floor examples' and 'Slips seen in other models', and document 02, items 3, 4, 6, 7 and 9, are
-- stated here as one table; the rows of item 9 are in `Overdrive.antt`.
use Rattle.std.specs.Prelude.{ℕ, List, [], ◌∷◌, ◌++◌, replicate}
use Rattle.line.specs.Transfers.{waiting, at_memory_command}
use Rattle.example_laws.specs.Session.{SessionStep, reset, pulse, write, write_bits, read}
use Rattle.example_laws.specs.Session.{events_of_steps, skip, select}
use Rattle.example_laws.specs.Images.{ds1992_code, second_code, ds1993_code, ds1982_code, zeros, ones, counting}
use Rattle.example_laws.specs.Images.{sram_body, eprom_body, no_device, ds1992, ds1993, ds1982, blank_ds1992}
use Rattle.example_laws.specs.Images.{blank_ds1993, blank_ds1982, one_of_each, two_ds1992, ds1992_and_ds1982, placed}
use Rattle.example_laws.specs.Images.{one_flat, flat_and_good, flat_ds1993_and_ds1992, two_bytes}
use Rattle.example_laws.specs.Overdrive.{overdrive_rows}
use Rattle.example_laws.specs.Row.{Row, run, refused, search, copying, session}

-- ---- 1: reset, CCh

abbrev pub skip_rom : List ℕ
skip_rom = 2 ∷ 0 ∷ 0 ∷ 1 ∷ 1 ∷ 0 ∷ 0 ∷ 1 ∷ 1 ∷ []

-- The answers to skip ROM are the presence, then the master's own levels.
abbrev pub skip_answers : ℕ → List ℕ
skip_answers presence = presence ∷ 0 ∷ 0 ∷ 1 ∷ 1 ∷ 0 ∷ 0 ∷ 1 ∷ 1 ∷ []

abbrev pub example1 : List Row
example1 =
    run blank_ds1992 skip_rom (skip_answers 0) blank_ds1992 at_memory_command 0
    ∷ run no_device skip_rom (skip_answers 1) no_device waiting 0
    ∷ []

-- ---- 2: the empty trace

abbrev pub empty : List ℕ → Row
empty image = run image [] [] image waiting 0

abbrev pub example2 : List Row
example2 = empty no_device ∷ empty blank_ds1992 ∷ empty blank_ds1993 ∷ empty blank_ds1982 ∷ empty one_of_each ∷ []

-- ---- 3 to 7: a DS1992's scratchpad, which AAh reads back

abbrev pub read_scratchpad_steps : List ℕ → List SessionStep
read_scratchpad_steps bytes = skip (0xAA ∷ []) ++ read bytes ∷ []

-- A copy sends a pattern, and reads one byte after it.
abbrev pub copy : List ℕ → ℕ → List SessionStep
copy pattern byte = skip (0x55 ∷ pattern) ++ read (byte ∷ []) ∷ []

-- A DS1992 was written to for the target 0026h and has this E/S; nothing is copied yet.
abbrev pub written : ℕ → List ℕ
written es = ds1992 (0x26 ∷ 0x00 ∷ es ∷ []) two_bytes (zeros 128)

-- A DS1992 has copied A1h and A2h to 0026h.
abbrev pub copied : List ℕ
copied =
    ds1992 (0x26 ∷ 0x00 ∷ 0x87 ∷ []) two_bytes (placed 0x26 (0xA1 ∷ 0xA2 ∷ []) (zeros 128))

-- Two bytes for the target 0026h leave E/S at 07h.
abbrev pub example3 : List Row
example3 =
    session blank_ds1992
    (skip (0x0F ∷ 0x26 ∷ 0x00 ∷ 0xA1 ∷ 0xA2 ∷ []) ++ read_scratchpad_steps (0x26 ∷ 0x00 ∷ 0x07 ∷ 0xA1 ∷ 0xA2 ∷ []))
    (written 0x07)
    ∷ []

-- The copy 26 00 07 makes E/S 87h. The same pattern once more reads ones and writes nothing; then 26 00 87 is accepted.
-- Each copy that is accepted writes two bytes.
abbrev pub example4 : List Row
example4 =
    copying (written 0x07) (copy (0x26 ∷ 0x00 ∷ 0x07 ∷ []) 0x00 ++ read_scratchpad_steps (0x26 ∷ 0x00 ∷ 0x87 ∷ []))
    copied 2
    ∷ copying copied (copy (0x26 ∷ 0x00 ∷ 0x07 ∷ []) 0xFF ++ copy (0x26 ∷ 0x00 ∷ 0x87 ∷ []) 0x00) copied 2
    -- A memory that lacks the bytes shows whether they are written.
    ∷ session (written 0x87) (copy (0x26 ∷ 0x00 ∷ 0x07 ∷ []) 0xFF) (written 0x87)
    ∷ copying (written 0x87) (copy (0x26 ∷ 0x00 ∷ 0x87 ∷ []) 0x00) copied 2
    ∷ []

-- Five bytes for the target 003Ch leave E/S at 5Fh; four of them are held, and offset 0 is not written.
abbrev pub example5 : List Row
example5 =
    session blank_ds1992
    (skip (0x0F ∷ 0x3C ∷ 0x00 ∷ 0xB1 ∷ 0xB2 ∷ 0xB3 ∷ 0xB4 ∷ 0xB5 ∷ [])
    ++ read_scratchpad_steps (0x3C ∷ 0x00 ∷ 0x5F ∷ 0xB1 ∷ 0xB2 ∷ 0xB3 ∷ 0xB4 ∷ 0xFF ∷ []))
    (ds1992 (0x3C ∷ 0x00 ∷ 0x5F ∷ []) (placed 28 (0xB1 ∷ 0xB2 ∷ 0xB3 ∷ 0xB4 ∷ []) (zeros 32)) (zeros 128))
    ∷ []

-- A reset after 11 data bits for the target 0026h leaves E/S at 27h; the five bits that were not sent keep their value.
abbrev pub example6 : List Row
example6 =
    session (ds1992 (zeros 3) (ones 32) (zeros 128))
    (skip (0x0F ∷ 0x26 ∷ 0x00 ∷ 0xA1 ∷ []) ++ write_bits 3 0x05
    ∷ read_scratchpad_steps (0x26 ∷ 0x00 ∷ 0x27 ∷ 0xA1 ∷ 0xFD ∷ []))
    (ds1992 (0x26 ∷ 0x00 ∷ 0x27 ∷ []) (placed 6 (0xA1 ∷ 0xFD ∷ []) (ones 32)) (zeros 128))
    ∷ []

-- The target 0026h with no data bits leaves E/S at 06h.
abbrev pub example7 : List Row
example7 =
    session blank_ds1992 (skip (0x0F ∷ 0x26 ∷ 0x00 ∷ []) ++ read_scratchpad_steps (0x26 ∷ 0x00 ∷ 0x06 ∷ []))
    (ds1992 (0x26 ∷ 0x00 ∷ 0x06 ∷ []) (zeros 32) (zeros 128))
    ∷ []

-- ---- 8: DS1993 read at 01FFh: one byte, then ones; at 0200h: ones

-- A DS1993 has this target and 5Ah in its last byte; a read leaves its address as the target.
abbrev pub last_byte_set : ℕ → ℕ → List ℕ
last_byte_set low high = ds1993 (low ∷ high ∷ 0x00 ∷ []) (zeros 32) (placed 0x1FF (0x5A ∷ []) (zeros 512))

abbrev pub example8 : List Row
example8 =
    session (last_byte_set 0x00 0x00)
    (skip (0xF0 ∷ 0xFF ∷ 0x01 ∷ []) ++ read (0x5A ∷ 0xFF ∷ 0xFF ∷ [])
    ∷ skip (0xF0 ∷ 0x00 ∷ 0x02 ∷ []) ++ read (0xFF ∷ 0xFF ∷ []) ∷ [])
    (last_byte_set 0x00 0x02)
    ∷ []

-- ---- 9 and 10: a DS1982 is programmed

-- The master reads the CRC, sends a program pulse, and reads the stored byte.
abbrev pub programs : ℕ → ℕ → List SessionStep
programs crc stored = read (crc ∷ []) ∷ pulse ∷ read (stored ∷ []) ∷ []

-- A write at 0085h works on 0005h, where F0h over 3Ch leaves 30h. The CRC is that of 0F 05 00 F0. In the next pass the
-- register is loaded with 06h.
abbrev pub example9 : List Row
example9 =
    session (ds1982 (ones 8) (placed 5 (0x3C ∷ 0x3C ∷ []) (ones 128)))
    (skip (0x0F ∷ 0x85 ∷ 0x00 ∷ 0xF0 ∷ []) ++ programs 0xDB 0x30 ++ write (0x0F ∷ []) ∷ programs 0x9C 0x0C)
    (ds1982 (ones 8) (placed 5 (0x30 ∷ 0x0C ∷ []) (ones 128)))
    ∷ []

-- With status byte 0 at FEh page 0 keeps its bytes, while page 1 is programmed.
abbrev pub example10 : List Row
example10 =
    session (ds1982 (0xFE ∷ ones 7) (ones 128))
    (skip (0x0F ∷ 0x1F ∷ 0x00 ∷ 0x00 ∷ []) ++ programs 0x8F 0xFF ++ write (0x5A ∷ []) ∷ programs 0x86 0x5A)
    (ds1982 (0xFE ∷ ones 7) (placed 0x20 (0x5A ∷ []) (ones 128)))
    ∷ []

-- ---- 11: one device of each kind: found 08h, 06h, 09h; 603 events

abbrev pub one_of_each_found : Row
one_of_each_found = search one_of_each (ds1992_code ∷ ds1993_code ∷ ds1982_code ∷ []) 603

abbrev pub example11 : List Row
example11 = one_of_each_found ∷ []

-- ---- slips that no example covers

-- The CRC is that of a cut address: F0h at 0085h sends that of F0 05 00, then bytes from 0005h on.
abbrev pub cut_address_rows : List Row
cut_address_rows =
    session (ds1982 (ones 8) (counting 128 0x00))
    (skip (0xF0 ∷ 0x85 ∷ 0x00 ∷ []) ++ read (0x72 ∷ 0x05 ∷ 0x06 ∷ []) ∷ [])
    (ds1982 (ones 8) (counting 128 0x00))
    ∷ []

-- A device that listens beside one that sends receives the line's level. After 0Fh, address and data the DS1982 sends
-- the CRC of 0F 05 00 A5, and the DS1992 receives it as the next byte of its scratchpad, while the master sends ones.
abbrev pub written_both : List ℕ → List ℕ → List ℕ
written_both registers scratchpad =
    ds1992_and_ds1982 (sram_body ds1992_code registers scratchpad (zeros 128))
    (eprom_body ds1982_code (ones 8) (ones 128))

-- After AAh the DS1992 sends TA1 and TA2, 05 00, and the DS1982 receives them as the address of read status. Then the
-- DS1992 sends ones (E/S, scratchpad), and the DS1982 the CRC of AA 05 00, status bytes 5 to 7, and their CRC.
abbrev pub read_both : List ℕ
read_both =
    ds1992_and_ds1982 (sram_body ds1992_code (0x05 ∷ 0x00 ∷ 0xFF ∷ []) (ones 32) (zeros 128))
    (eprom_body ds1982_code (0xFF ∷ 0xFE ∷ 0xFD ∷ 0xFC ∷ 0xFB ∷ 0xFA ∷ 0xF9 ∷ 0x00 ∷ []) (ones 128))

abbrev pub listener : List Row
listener =
    session (written_both (zeros 3) (zeros 32)) (skip (0x0F ∷ 0x05 ∷ 0x00 ∷ 0xA5 ∷ []) ++ read (0x3F ∷ []) ∷ [])
    (written_both (0x05 ∷ 0x00 ∷ 0x06 ∷ []) (placed 5 (0xA5 ∷ 0x3F ∷ []) (zeros 32)))
    ∷ session read_both (skip (0xAA ∷ []) ++ read (0x05 ∷ 0x00 ∷ 0x63 ∷ 0xFA ∷ 0xF9 ∷ 0x00 ∷ 0xCC ∷ 0xFF ∷ []) ∷ [])
    read_both
    ∷ []

-- ---- document 02, item 3: read memory loads the target

abbrev pub read_at : List ℕ → List ℕ → List SessionStep
read_at address bytes = skip (0xF0 ∷ address) ++ read bytes ∷ []

-- A DS1992 has these registers and A1h, A2h at offset 6; its memory is ones, so that any byte copied to it shows.
abbrev pub holding : List ℕ → List ℕ
holding registers = ds1992 registers two_bytes (ones 128)

abbrev pub read_loads_target : List Row
read_loads_target =
    -- After a read at 0041h the pattern 26 00 07 no longer matches: the answer is ones, and nothing is written.
    session (holding (0x26 ∷ 0x00 ∷ 0x07 ∷ []))
    (read_at (0x41 ∷ 0x00 ∷ []) (0xFF ∷ 0xFF ∷ []) ++ copy (0x26 ∷ 0x00 ∷ 0x07 ∷ []) 0xFF)
    (holding (0x41 ∷ 0x00 ∷ 0x07 ∷ []))
    -- After a read at 0044h read scratchpad starts at offset 4, and a copy goes from there through the ending offset.
    ∷ copying (holding (0x26 ∷ 0x00 ∷ 0x07 ∷ []))
    (read_at (0x44 ∷ 0x00 ∷ []) (0xFF ∷ [])
    ++ read_scratchpad_steps (0x44 ∷ 0x00 ∷ 0x07 ∷ 0x00 ∷ 0x00 ∷ 0xA1 ∷ 0xA2 ∷ 0x00 ∷ [])
    ++ copy (0x44 ∷ 0x00 ∷ 0x07 ∷ []) 0x00)
    (ds1992 (0x44 ∷ 0x00 ∷ 0x87 ∷ []) two_bytes (placed 0x44 (0x00 ∷ 0x00 ∷ 0xA1 ∷ 0xA2 ∷ []) (ones 128)))
    4
    -- After a read at 0050h the ending offset is below T4:T0: a copy writes no byte, sets AA and is answered 0.
    ∷ session (holding (0x26 ∷ 0x00 ∷ 0x07 ∷ []))
    (read_at (0x50 ∷ 0x00 ∷ []) (0xFF ∷ []) ++ copy (0x50 ∷ 0x00 ∷ 0x07 ∷ []) 0x00)
    (holding (0x50 ∷ 0x00 ∷ 0x87 ∷ []))
    -- An address past the memory's end is loaded as it is sent; the flags stay.
    ∷ session (holding (0x26 ∷ 0x00 ∷ 0xE7 ∷ []))
    (read_at (0x26 ∷ 0x12 ∷ []) (0xFF ∷ []) ++ read_scratchpad_steps (0x26 ∷ 0x12 ∷ 0xE7 ∷ 0xA1 ∷ 0xA2 ∷ []))
    (holding (0x26 ∷ 0x12 ∷ 0xE7 ∷ []))
    -- A read that is cut off before the 16th address bit loads nothing.
    ∷ session (holding (0x26 ∷ 0x00 ∷ 0x07 ∷ []))
    (skip (0xF0 ∷ 0x41 ∷ []) ++ write_bits 7 0x00 ∷ read_scratchpad_steps (0x26 ∷ 0x00 ∷ 0x07 ∷ []))
    (holding (0x26 ∷ 0x00 ∷ 0x07 ∷ []))
    ∷ []

-- ---- two devices under one probe

-- A DS1992 is `blank` before it copies A1h and A2h to 0026h, and `after_copy` after it, with this low byte of the
-- target.
abbrev pub blank : List ℕ → List ℕ → List ℕ
blank code memory = sram_body code (zeros 3) (zeros 32) memory

abbrev pub after_copy : ℕ → List ℕ → List ℕ → List ℕ
after_copy low code memory =
    sram_body code (low ∷ 0x00 ∷ 0x87 ∷ []) two_bytes (placed 0x26 (0xA1 ∷ 0xA2 ∷ []) memory)

-- By skip ROM both devices receive one write and one copy, and both count: two bytes each. The memory of the first was
-- 00h, that of the second FFh, so that the line has their AND. The reads leave their address as the target.
abbrev pub one_copy : List Row
one_copy =
    copying (two_ds1992 (blank ds1992_code (zeros 128)) (blank second_code (ones 128)))
    (skip (0x0F ∷ 0x26 ∷ 0x00 ∷ 0xA1 ∷ 0xA2 ∷ [])
    ++ copy (0x26 ∷ 0x00 ∷ 0x07 ∷ []) 0x00
    ++ skip (0xF0 ∷ 0x25 ∷ 0x00 ∷ [])
    ++ read (0x00 ∷ 0xA1 ∷ 0xA2 ∷ 0x00 ∷ [])
    ∷ select second_code (0xF0 ∷ 0x25 ∷ 0x00 ∷ [])
    ++ read (0xFF ∷ 0xA1 ∷ 0xA2 ∷ 0xFF ∷ [])
    ∷ [])
    (two_ds1992 (after_copy 0x25 ds1992_code (zeros 128)) (after_copy 0x25 second_code (ones 128)))
    4
    -- By match ROM only the device that is named receives the write and the copy.
    ∷ copying (two_ds1992 (blank ds1992_code (zeros 128)) (blank second_code (ones 128)))
    (select second_code (0x0F ∷ 0x26 ∷ 0x00 ∷ 0xA1 ∷ 0xA2 ∷ [])
    ++ select second_code (0x55 ∷ 0x26 ∷ 0x00 ∷ 0x07 ∷ [])
    ++ read (0x00 ∷ [])
    ∷ [])
    (two_ds1992 (blank ds1992_code (zeros 128)) (after_copy 0x26 second_code (ones 128)))
    2
    ∷ []

-- ---- document 02, item 4: what a copy did

-- A DS1992 has this target low byte, this E/S, a scratchpad of 40h to 5Fh and this memory.
abbrev pub full : ℕ → ℕ → List ℕ → List ℕ
full low es memory = ds1992 (low ∷ 0x00 ∷ es ∷ []) (counting 32 0x40) memory

abbrev pub copy_rows : List Row
copy_rows =
    -- A copy of the whole scratchpad writes 32 bytes.
    copying (full 0x20 0x1F (zeros 128)) (copy (0x20 ∷ 0x00 ∷ 0x1F ∷ []) 0x00)
    (full 0x20 0x9F (placed 0x20 (counting 32 0x40) (zeros 128)))
    32
    -- A copy to a target past the memory writes none, and is answered 0 too.
    ∷ session (full 0x80 0x1F (zeros 128)) (copy (0x80 ∷ 0x00 ∷ 0x1F ∷ []) 0x00) (full 0x80 0x9F (zeros 128))
    ∷ []

-- ---- reads and writes of a DS1982 from every kind of start

-- The data is 3Ch, but 11h and 22h at the end of page 2, and in page 3 each byte is its address.
abbrev pub full_data : List ℕ
full_data = replicate 94 0x3C ++ 0x11 ∷ 0x22 ∷ counting 32 0x60

-- The status has this byte 0, and each other byte is its address.
abbrev pub filled : ℕ → List ℕ
filled protection = ds1982 (protection ∷ counting 7 0x01) full_data

abbrev pub reads : List Row
reads =
    -- F0h at FFFEh sends the CRC of F0 7E 00, two bytes, their CRC, then ones.
    session (filled 0xFF) (skip (0xF0 ∷ 0xFE ∷ 0xFF ∷ []) ++ read (0xE7 ∷ 0x7E ∷ 0x7F ∷ 0xD3 ∷ 0xFF ∷ 0xFF ∷ []) ∷ [])
    (filled 0xFF)
    -- AAh at 000Dh sends the CRC of AA 05 00, status bytes 5 to 7, their CRC, then ones.
    ∷ session (filled 0xFF) (skip (0xAA ∷ 0x0D ∷ 0x00 ∷ []) ++ read (0x63 ∷ 0x05 ∷ 0x06 ∷ 0x07 ∷ 0x1C ∷ 0xFF ∷ []) ∷ [])
    (filled 0xFF)
    -- C3h at 005Eh sends the CRC of C3 5E 00, two bytes of page 2 and their CRC, page 3 and its CRC, then ones.
    ∷ session (filled 0xFF)
    (skip (0xC3 ∷ 0x5E ∷ 0x00 ∷ []) ++ read (0x1C ∷ 0x11 ∷ 0x22 ∷ 0xB7 ∷ counting 32 0x60) ∷ read (0xD1 ∷ 0xFF ∷ [])
    ∷ [])
    (filled 0xFF)
    -- Any other command makes the device wait.
    ∷ session (filled 0xFF) (skip (0x3C ∷ []) ++ read (0xFF ∷ 0xFF ∷ []) ∷ pulse ∷ []) (filled 0xFF)
    ∷ []

abbrev pub writes : List Row
writes =
    -- A status byte has no protection, here with every page protected. After the last address the device waits.
    session (filled 0x00)
    (skip (0x55 ∷ 0x07 ∷ 0x00 ∷ 0x05 ∷ []) ++ programs 0x1C 0x05 ++ read (0xFF ∷ []) ∷ pulse ∷ [])
    (ds1982 (0x00 ∷ placed 6 (0x05 ∷ []) (counting 7 0x01)) full_data)
    -- A pulse elsewhere does nothing, and a slot where one is due makes the device wait.
    ∷ session (filled 0xFF)
    (skip (0x0F ∷ [])
    ++ pulse
    ∷ write (0x05 ∷ 0x00 ∷ [])
    ∷ pulse
    ∷ write (0x00 ∷ [])
    ∷ read (0xAF ∷ 0xFF ∷ [])
    ∷ pulse
    ∷ read (0xFF ∷ [])
    ∷ [])
    (filled 0xFF)
    ∷ []

-- ---- document 02, item 6: no slots before a reset

-- This capture began with the last byte of a read, before a whole write of two bytes.
abbrev pub begun_in_a_read : List ℕ
begun_in_a_read = events_of_steps (read (0xFF ∷ []) ∷ skip (0x0F ∷ 0x26 ∷ 0x00 ∷ 0xA1 ∷ 0xA2 ∷ []))

abbrev pub begun_before_a_reset : List Row
begun_before_a_reset =
    refused blank_ds1992 begun_in_a_read 11
    -- It is refused with no device too, and so is a pulse that comes first where every device is a DS1982.
    ∷ refused no_device begun_in_a_read 11
    ∷ refused blank_ds1982 (3 ∷ skip_rom) 11
    -- Cause 11 comes before 6, a pulse on a device that is no DS1982, and after 5, a byte over 6.
    ∷ refused blank_ds1992 (3 ∷ skip_rom) 11
    ∷ refused blank_ds1992 (7 ∷ skip_rom) 5
    -- After a reset the pulse on a DS1992 is a 6.
    ∷ refused blank_ds1992 (2 ∷ 3 ∷ []) 6
    ∷ []

-- ---- document 02, item 7: flat batteries

-- A DS1992 with a flat battery holds A1h and A2h for the target 0026h.
abbrev pub flat_holding : List ℕ
flat_holding = one_flat 0x08 (sram_body ds1992_code (0x26 ∷ 0x00 ∷ 0x07 ∷ []) two_bytes (zeros 128))

-- A search finds a DS1993 with a flat battery like any other, here beside a good DS1992.
abbrev pub flat_found : Row
flat_found = search flat_ds1993_and_ds1992 (ds1992_code ∷ ds1993_code ∷ []) 402

abbrev pub flat_rows : List Row
flat_rows =
    flat_found
    -- It does read ROM, then answers ones and waits: the bytes of a write scratchpad change nothing.
    ∷ session flat_holding
    (reset ∷ write (0x33 ∷ []) ∷ read ds1992_code ∷ write (0x0F ∷ 0x40 ∷ 0x00 ∷ 0x55 ∷ []) ∷ read (0xFF ∷ []) ∷ [])
    flat_holding
    -- A copy with the pattern that it holds is answered with ones and writes nothing.
    ∷ session flat_holding (copy (0x26 ∷ 0x00 ∷ 0x07 ∷ []) 0xFF) flat_holding
    ∷ session flat_holding (select ds1992_code (0x55 ∷ 0x26 ∷ 0x00 ∷ 0x07 ∷ []) ++ read (0xFF ∷ []) ∷ []) flat_holding
    -- By skip ROM beside a good one only the good one receives the write and the copy.
    ∷ copying (flat_and_good (blank ds1992_code (zeros 128)) (blank second_code (ones 128)))
    (skip (0x0F ∷ 0x26 ∷ 0x00 ∷ 0xA1 ∷ 0xA2 ∷ []) ++ copy (0x26 ∷ 0x00 ∷ 0x07 ∷ []) 0x00)
    (flat_and_good (blank ds1992_code (zeros 128)) (after_copy 0x26 second_code (ones 128)))
    2
    -- After skip ROM it waits.
    ∷ run flat_holding skip_rom (skip_answers 0) flat_holding waiting 0
    -- A second byte of 1 is refused in edition 1, and on a DS1982; so are a second byte over 1 and an edition over 2.
    ∷ refused (0x01 ∷ 0x01 ∷ 0x08 ∷ 0x01 ∷ 0x06 ∷ 0x00 ∷ blank ds1992_code (zeros 128)) skip_rom 1
    ∷ refused (one_flat 0x09 (eprom_body ds1982_code (ones 8) (ones 128))) skip_rom 1
    ∷ refused (0x01 ∷ 0x02 ∷ 0x08 ∷ 0x02 ∷ 0x06 ∷ 0x00 ∷ blank ds1992_code (zeros 128)) skip_rom 1
    ∷ refused (0x01 ∷ 0x03 ∷ 0x08 ∷ 0x00 ∷ 0x06 ∷ 0x00 ∷ blank ds1992_code (zeros 128)) skip_rom 1
    ∷ []

abbrev pub table : List Row
table =
    example1 ++ example2 ++ example3 ++ example4 ++ example5 ++ example6 ++ example7 ++ example8 ++ example9
    ++ example10 ++ example11
    ++ cut_address_rows ++ listener ++ read_loads_target ++ one_copy ++ copy_rows ++ reads ++ writes
    ++ begun_before_a_reset ++ flat_rows ++ overdrive_rows

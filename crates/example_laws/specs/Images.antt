-- Document 01, 'The image', is the layout by which the images of the examples are put together here from their parts.
use Rattle.std.specs.Prelude.{ℕ, zero, suc, ◌+◌, List, [], ◌∷◌, ◌++◌, replicate}
use Rattle.std.proofs.lemmas.List.Edits.{sets}

-- ---- codes: the family, 48 bits of serial number, the CRC

abbrev pub ds1992_code : List ℕ
ds1992_code = 0x08 ∷ 0x01 ∷ 0x00 ∷ 0x00 ∷ 0x00 ∷ 0x00 ∷ 0x00 ∷ 0xC6 ∷ []

abbrev pub second_code : List ℕ
second_code = 0x08 ∷ 0x02 ∷ 0x00 ∷ 0x00 ∷ 0x00 ∷ 0x00 ∷ 0x00 ∷ 0x9F ∷ []

abbrev pub ds1993_code : List ℕ
ds1993_code = 0x06 ∷ 0x01 ∷ 0x00 ∷ 0x00 ∷ 0x00 ∷ 0x00 ∷ 0x00 ∷ 0xB9 ∷ []

abbrev pub ds1982_code : List ℕ
ds1982_code = 0x09 ∷ 0x2B ∷ 0xC5 ∷ 0xFB ∷ 0x00 ∷ 0x00 ∷ 0x00 ∷ 0x97 ∷ []

-- This code is engraved in the DS1996's data sheet.
abbrev pub ds1996_code : List ℕ
ds1996_code = 0x0C ∷ 0x2B ∷ 0xC5 ∷ 0xFB ∷ 0x00 ∷ 0x00 ∷ 0x00 ∷ 0x5E ∷ []

abbrev pub other_ds1996_code : List ℕ
other_ds1996_code = 0x0C ∷ 0x01 ∷ 0x00 ∷ 0x00 ∷ 0x00 ∷ 0x00 ∷ 0x00 ∷ 0x32 ∷ []

-- ---- bytes

abbrev pub zeros : ℕ → List ℕ
zeros n = replicate n 0x00

abbrev pub ones : ℕ → List ℕ
ones n = replicate n 0xFF

-- These are n bytes that count up from a first one.
abbrev pub counting : ℕ → ℕ → List ℕ
counting zero first = []
counting (suc n) first = first ∷ counting n (first + 1)

-- ---- bodies

-- A body of a DS1992, DS1993 or DS1996 is its code, TA1, TA2 and E/S, the scratchpad, and the memory.
abbrev pub sram_body : List ℕ → List ℕ → List ℕ → List ℕ → List ℕ
sram_body code registers scratchpad memory = code ++ registers ++ scratchpad ++ memory

-- A body of a DS1982 is its code, the status and the data.
abbrev pub eprom_body : List ℕ → List ℕ → List ℕ → List ℕ
eprom_body code status bytes = code ++ status ++ bytes

-- ---- images

abbrev pub no_device : List ℕ
no_device = 0x00 ∷ 0x01 ∷ []

-- An image of one device of a family has its body at 6.
abbrev pub one_device : ℕ → List ℕ → List ℕ
one_device family body = 0x01 ∷ 0x01 ∷ family ∷ 0x00 ∷ 0x06 ∷ 0x00 ∷ body

abbrev pub ds1992 : List ℕ → List ℕ → List ℕ → List ℕ
ds1992 registers scratchpad memory = one_device 0x08 (sram_body ds1992_code registers scratchpad memory)

abbrev pub ds1993 : List ℕ → List ℕ → List ℕ → List ℕ
ds1993 registers scratchpad memory = one_device 0x06 (sram_body ds1993_code registers scratchpad memory)

abbrev pub ds1996 : List ℕ → List ℕ → List ℕ → List ℕ
ds1996 registers scratchpad memory = one_device 0x0C (sram_body ds1996_code registers scratchpad memory)

abbrev pub ds1982 : List ℕ → List ℕ → List ℕ
ds1982 status bytes = one_device 0x09 (eprom_body ds1982_code status bytes)

-- These images have one device with nothing written to it.
abbrev pub blank_ds1992 : List ℕ
blank_ds1992 = ds1992 (zeros 3) (zeros 32) (zeros 128)

abbrev pub blank_ds1993 : List ℕ
blank_ds1993 = ds1993 (zeros 3) (zeros 32) (zeros 512)

abbrev pub blank_ds1982 : List ℕ
blank_ds1982 = ds1982 (ones 8) (ones 128)

abbrev pub blank_ds1996 : List ℕ
blank_ds1996 = ds1996 (zeros 3) (zeros 32) (zeros 8192)

-- This image has one device of each kind of document 01, all blank, in an order in which no search finds them; the
-- bodies are at 14, 158 and 713.
abbrev pub one_of_each : List ℕ
one_of_each =
    (0x03 ∷ 0x01 ∷ 0x09 ∷ 0x00 ∷ 0x0E ∷ 0x00 ∷ 0x06 ∷ 0x00 ∷ 0x9E ∷ 0x00 ∷ 0x08 ∷ 0x00 ∷ 0xC9 ∷ 0x02 ∷ [])
    ++ eprom_body ds1982_code (ones 8) (ones 128)
    ++ sram_body ds1993_code (zeros 3) (zeros 32) (zeros 512)
    ++ sram_body ds1992_code (zeros 3) (zeros 32) (zeros 128)

-- An image of two DS1992 has its bodies at 10 and 181.
abbrev pub two_ds1992 : List ℕ → List ℕ → List ℕ
two_ds1992 first_body second_body =
    (0x02 ∷ 0x01 ∷ 0x08 ∷ 0x00 ∷ 0x0A ∷ 0x00 ∷ 0x08 ∷ 0x00 ∷ 0xB5 ∷ 0x00 ∷ []) ++ first_body ++ second_body

-- An image of a DS1992 and a DS1982 has its bodies at 10 and 181.
abbrev pub ds1992_and_ds1982 : List ℕ → List ℕ → List ℕ
ds1992_and_ds1982 first_body second_body =
    (0x02 ∷ 0x01 ∷ 0x08 ∷ 0x00 ∷ 0x0A ∷ 0x00 ∷ 0x09 ∷ 0x00 ∷ 0xB5 ∷ 0x00 ∷ []) ++ first_body ++ second_body

-- An image of a DS1992 and a DS1996 has its bodies at 10 and 181.
abbrev pub ds1992_and_ds1996 : List ℕ → List ℕ → List ℕ
ds1992_and_ds1996 first_body second_body =
    (0x02 ∷ 0x01 ∷ 0x08 ∷ 0x00 ∷ 0x0A ∷ 0x00 ∷ 0x0C ∷ 0x00 ∷ 0xB5 ∷ 0x00 ∷ []) ++ first_body ++ second_body

-- ---- images of edition 2, in which the second byte of an entry is 1 where the battery is flat

-- An image of one device with a flat battery has its body at 6.
abbrev pub one_flat : ℕ → List ℕ → List ℕ
one_flat family body = 0x01 ∷ 0x02 ∷ family ∷ 0x01 ∷ 0x06 ∷ 0x00 ∷ body

-- An image of two DS1992, of which the first has a flat battery, has its bodies at 10 and 181.
abbrev pub flat_and_good : List ℕ → List ℕ → List ℕ
flat_and_good first_body second_body =
    (0x02 ∷ 0x02 ∷ 0x08 ∷ 0x01 ∷ 0x0A ∷ 0x00 ∷ 0x08 ∷ 0x00 ∷ 0xB5 ∷ 0x00 ∷ []) ++ first_body ++ second_body

-- This image has a blank DS1993 with a flat battery and a blank DS1992, with the bodies at 10 and 565.
abbrev pub flat_ds1993_and_ds1992 : List ℕ
flat_ds1993_and_ds1992 =
    (0x02 ∷ 0x02 ∷ 0x06 ∷ 0x01 ∷ 0x0A ∷ 0x00 ∷ 0x08 ∷ 0x00 ∷ 0x35 ∷ 0x02 ∷ [])
    ++ sram_body ds1993_code (zeros 3) (zeros 32) (zeros 512)
    ++ sram_body ds1992_code (zeros 3) (zeros 32) (zeros 128)

-- ---- what was written

-- Bytes are put among others from a place on.
abbrev pub placed : ℕ → List ℕ → List ℕ → List ℕ
placed at bytes among = sets among at bytes

-- A scratchpad has A1h and A2h at offset 6.
abbrev pub two_bytes : List ℕ
two_bytes = placed 6 (0xA1 ∷ 0xA2 ∷ []) (zeros 32)

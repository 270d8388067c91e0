-- Document 01, 'ROM stage' and 'Registration code and CRC', has bits go least significant first, as these definitions
-- do. A level is a Bool, and false is 0; a byte is a number below 256. Past the end of bytes every bit is 0, and one
-- put there changes nothing.
use Rattle.std.specs.Prelude.{ℕ, ◌+◌, ◌-◌, ◌/◌, ◌%◌, ◌^◌, Bool, true, false, cond, List, get_or, set, eqb, leb}

-- A level is 0 or 1 as a byte.
unfoldable pub level_byte : Bool → ℕ
level_byte false = 0
level_byte true = 1

-- Bit i of the byte b is the one of place value 2 ^ i.
unfoldable pub bit_of : ℕ → ℕ → Bool
bit_of b i = eqb (b / 2 ^ i % 2) 1

-- Bit i of bytes that follow each other is bit i % 8 of byte i / 8.
abbrev pub byte_of : ℕ → ℕ
byte_of i = i / 8

abbrev pub bit_place : ℕ → ℕ
bit_place i = i % 8

unfoldable pub bit_at : List ℕ → ℕ → Bool
bit_at s i = bit_of (get_or s (byte_of i) 0) (bit_place i)

-- Bit i of the byte b is put at a level, and the others stay as they were; a byte has bits 0 to 7 only.
unfoldable pub at_level : ℕ → ℕ → Bool → ℕ
at_level b i true = cond (bit_of b i) b (b + 2 ^ i)
at_level b i false = cond (bit_of b i) (b - 2 ^ i) b

unfoldable pub with_bit : ℕ → ℕ → Bool → ℕ
with_bit b i level = cond (leb 8 i) b (at_level b i level)

-- Bit i of the bytes s is put at a level, and the others stay as they were.
unfoldable pub put_bit : List ℕ → ℕ → Bool → List ℕ
put_bit s i level = set s (byte_of i) (with_bit (get_or s (byte_of i) 0) (bit_place i) level)

-- Each bit of a register of eight moves down by one place, and a level comes in at the top.
unfoldable pub shift_in : ℕ → Bool → ℕ
shift_in register true = register / 2 + 128
shift_in register false = register / 2

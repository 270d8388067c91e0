-- Document 01, 'ROM stage', has bits go least significant first. Here bytes become levels of the line, and levels
-- become bytes: these are the words in which laws speak of several slots.
use Rattle.std.specs.Prelude.{ℕ, zero, suc, ◌+◌, ◌*◌, ◌/◌, Bool, List, [], ◌∷◌, ◌++◌}
use Rattle.bits.specs.Bit.{bit_of, shift_in, level_byte}

-- The n low bits of a number are levels of the line, the lowest first.
unfoldable pub low_bits : ℕ → ℕ → List Bool
low_bits zero value = []
low_bits (suc n) value = bit_of value 0 ∷ low_bits n (value / 2)

-- Bytes are levels of the line, one byte after another.
unfoldable pub line_bits : List ℕ → List Bool
line_bits [] = []
line_bits (byte ∷ bytes) = low_bits 8 byte ++ line_bits bytes

-- Levels spell a number, the lowest bit first.
unfoldable pub spelled : List Bool → ℕ
spelled [] = 0
spelled (level ∷ levels) = level_byte level + 2 * spelled levels

-- Levels come into a register one after another.
unfoldable pub shifts_in : ℕ → List Bool → ℕ
shifts_in register [] = register
shifts_in register (level ∷ levels) = shifts_in (shift_in register level) levels

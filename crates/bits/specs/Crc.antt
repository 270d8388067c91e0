-- Document 01, 'Registration code and CRC', is stated here: the polynomial is X8 + X5 + X4 + 1, the register is zero at
-- the start, and bits are shifted in least significant first.
use Rattle.std.specs.Prelude.{ℕ, zero, suc, ◌/◌, Bool, cond, ◌&&◌, List, [], ◌∷◌, length, eqb}
use Rattle.std.specs.Bool.{beq}
use Rattle.std.specs.Int.Bits.{bit_xor}
use Rattle.bits.specs.Bit.{bit_of}

-- This is one shift of the generator. The bit that leaves the register and the bit that comes in are added modulo 2.
-- The sum goes into the first stage and is added behind the fourth and the fifth: the terms 1, X4 and X5. The last
-- stage is bit 0, so these are bits 7, 3 and 2, which make 8Ch.
unfoldable pub crc_bit : ℕ → Bool → ℕ
crc_bit register level = cond (beq (bit_of register 0) level) (register / 2) (bit_xor (register / 2) 0x8C)

-- The n low bits of a byte are shifted in, the lowest first.
unfoldable pub crc_bits : ℕ → ℕ → ℕ → ℕ
crc_bits zero register byte = register
crc_bits (suc n) register byte = crc_bits n (crc_bit register (bit_of byte 0)) (byte / 2)

unfoldable pub crc_byte : ℕ → ℕ → ℕ
crc_byte register byte = crc_bits 8 register byte

-- Document 02, item 8, has a table whose entry v is register v after eight shifts of zero bits. These are n entries
-- from entry v on, and all 256 of them.
unfoldable pub entries_from : ℕ → ℕ → List ℕ
entries_from v zero = []
entries_from v (suc n) = crc_byte v 0 ∷ entries_from (suc v) n

unfoldable pub crc_table : List ℕ
crc_table = entries_from 0 256

-- Bytes are shifted in one after another, from any register.
unfoldable pub crc_from : ℕ → List ℕ → ℕ
crc_from register [] = register
crc_from register (byte ∷ bytes) = crc_from (crc_byte register byte) bytes

-- The CRC of bytes begins with a register of zero.
abbrev pub crc_of : List ℕ → ℕ
crc_of s = crc_from 0 s

-- The registration check passes exactly for 8 bytes whose CRC is zero.
unfoldable pub registration_check : List ℕ → Bool
registration_check code = eqb (length code) 8 && eqb (crc_of code) 0

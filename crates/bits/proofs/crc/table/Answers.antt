use mathlib.Core.Path.{refl}
use Rattle.bits.specs.Bit.{bit_of}
use Rattle.bits.specs.Crc.{crc_bit, crc_bits, crc_byte, entries_from, crc_table}
use Rattle.bits.proofs.crc.table.Goals as goal

-- one test, which the checker computes at all 256 entries
pub returns : goal.returns
unfolding bit_of crc_bit crc_bits crc_byte entries_from crc_table
returns c = refl

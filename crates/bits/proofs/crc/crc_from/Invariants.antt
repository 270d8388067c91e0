use Rattle.std.proofs.Common.{◌≡◌}
use lib.ListN.{drop}
use Rattle.bits.specs.Crc.{crc_from}
use Rattle.bits.proofs.crc.crc_from.Given as goal

abbrev pub invariant-loop-byte : goal.invariant-loop-byte
invariant-loop-byte l = crc_from l.reg (drop l.byte-index l.s) ≡ crc_from l.register l.s

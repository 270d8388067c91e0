use Rattle.bits.proofs.Table.{look_up}
use Rattle.bits.proofs.crc.crc_byte.Goals as goal

pub returns : goal.returns
returns c = rw (c.table.ensures, c.from.ensures) (look_up c.args.register c.args.byte c.ranges.register.fits c.ranges.byte.fits)

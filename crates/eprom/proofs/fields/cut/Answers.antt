use Rattle.std.proofs.Common.{arith}
use Rattle.eprom.proofs.Laws.{length-least}
use Rattle.eprom.proofs.fields.cut.Goals as goal

pub nonzero_rem-result : goal.nonzero_rem-result
nonzero_rem-result c = omega (arith, length-least c.args.field)

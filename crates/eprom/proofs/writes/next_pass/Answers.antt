use Rattle.std.proofs.Common.{arith}
use Rattle.eprom.proofs.Laws.{length-least}
use Rattle.eprom.proofs.writes.next_pass.Goals as goal

pub overflow_sub-last : goal.overflow_sub-last
overflow_sub-last c = omega (arith, length-least c.args.field)

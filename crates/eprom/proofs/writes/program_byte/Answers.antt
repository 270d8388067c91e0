use Rattle.std.proofs.Common.{arith}
use Rattle.eprom.proofs.Laws.{start-most}
use Rattle.eprom.proofs.writes.program_byte.Goals as goal

pub overflow_add-field_start : goal.overflow_add-field_start
overflow_add-field_start c = omega (arith, start-most c.args.field)

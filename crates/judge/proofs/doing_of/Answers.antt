use Rattle.std.proofs.Common.{arith}
use Rattle.std.proofs.lemmas.Grind.{common_steps}
use Rattle.judge.specs.Loops.{doing_of, memory_doing, sram_doing}
use Rattle.judge.proofs.doing_of.Goals as goal

pub returns-in-Memory-Command : goal.returns-in-Memory-Command
unfolding doing_of memory_doing sram_doing
returns-in-Memory-Command c = grind (arith, common_steps)

pub returns-in-Memory-Sram-WriteHigh : goal.returns-in-Memory-Sram-WriteHigh
unfolding doing_of memory_doing sram_doing
returns-in-Memory-Sram-WriteHigh c = grind (arith, common_steps)

pub returns-in-Memory-Sram-CopyPattern : goal.returns-in-Memory-Sram-CopyPattern
unfolding doing_of memory_doing sram_doing
returns-in-Memory-Sram-CopyPattern c = grind (arith, common_steps)

pub returns-in_default : goal.returns-in_default
unfolding doing_of memory_doing sram_doing
returns-in_default c = grind (arith, common_steps)

pub returns-in_default-2 : goal.returns-in_default-2
unfolding doing_of memory_doing sram_doing
returns-in_default-2 c = grind (arith, common_steps)

pub returns-in_default-3 : goal.returns-in_default-3
unfolding doing_of memory_doing sram_doing
returns-in_default-3 c = grind (arith, common_steps)

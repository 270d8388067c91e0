use Rattle.std.proofs.Common.{rules}
use Rattle.device.specs.Device.{memory_copy, memory_next, memory_write}
use Rattle.device.proofs.memory_end.Goals as goal

pub returns-in-Command : goal.returns-in-Command
unfolding memory_next memory_write memory_copy
returns-in-Command c = search rules

pub returns-in-Sram : goal.returns-in-Sram
unfolding memory_next memory_write memory_copy
returns-in-Sram c = search rules

pub returns-in-Eprom : goal.returns-in-Eprom
unfolding memory_next memory_write memory_copy
returns-in-Eprom c = search rules

use Rattle.std.proofs.Common.{rules}
use Rattle.device.specs.Device.{stage_copy, stage_next, stage_speed, stage_write}
use Rattle.device.proofs.stage_end.Goals as goal

pub returns-in-Rom : goal.returns-in-Rom
unfolding stage_next stage_speed stage_write stage_copy
returns-in-Rom c = search rules

pub returns-in-Memory : goal.returns-in-Memory
unfolding stage_next stage_speed stage_write stage_copy
returns-in-Memory c = search rules

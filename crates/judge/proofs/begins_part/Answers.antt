use Rattle.std.proofs.Common.{arith}
use Rattle.std.proofs.lemmas.Grind.{common_steps}
use Rattle.bus.specs.Bus.{event_of}
use Rattle.judge.specs.Loops.{begins_part}
use Rattle.judge.proofs.begins_part.Goals as goal

pub returns-in-Reset : goal.returns-in-Reset
unfolding begins_part event_of
returns-in-Reset c = grind (arith, common_steps)

pub returns-in-OverdriveReset : goal.returns-in-OverdriveReset
unfolding begins_part event_of
returns-in-OverdriveReset c = grind (arith, common_steps)

pub returns-in_default : goal.returns-in_default
unfolding begins_part event_of
returns-in_default c = grind (arith, common_steps)

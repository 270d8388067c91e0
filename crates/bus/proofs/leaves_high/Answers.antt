use Rattle.std.proofs.Common.{rules}
use Rattle.bus.specs.Bus.{event_of, hears}
use Rattle.bus.specs.Loops.{answers_high, leaves_high}
use Rattle.bus.proofs.leaves_high.Goals as goal

pub returns-in-2 : goal.returns-in-2
unfolding event_of hears answers_high leaves_high
returns-in-2 c = search rules

pub returns-in-6 : goal.returns-in-6
unfolding event_of hears answers_high leaves_high
returns-in-6 c = search rules

pub returns-then-sends_as_is : goal.returns-then-sends_as_is
unfolding event_of hears answers_high leaves_high
returns-then-sends_as_is c = search rules

pub returns-else-sends_as_is : goal.returns-else-sends_as_is
unfolding event_of hears answers_high leaves_high
returns-else-sends_as_is c = search rules

pub returns-in-4 : goal.returns-in-4
unfolding event_of hears answers_high leaves_high
returns-in-4 c = search rules

pub returns-in_default : goal.returns-in_default
unfolding event_of hears answers_high leaves_high
returns-in_default c = search rules

pub returns-in_default-2 : goal.returns-in_default-2
unfolding event_of hears answers_high leaves_high
returns-in_default-2 c = search rules

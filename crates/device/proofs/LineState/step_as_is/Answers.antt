use Rattle.std.proofs.Common.{rules}
use Rattle.device.specs.Device.{speed_after_slot, state_after_slot_as_is, transfer_after_slot}
use Rattle.device.proofs.LineState.step_as_is.Goals as goal

pub returns-then-goes_on : goal.returns-then-goes_on
unfolding state_after_slot_as_is transfer_after_slot speed_after_slot
returns-then-goes_on c = search rules

pub returns : goal.returns
unfolding state_after_slot_as_is transfer_after_slot speed_after_slot
returns c = search rules

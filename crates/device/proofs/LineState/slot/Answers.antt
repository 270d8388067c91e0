use Rattle.std.proofs.Common.{rules}
use Rattle.device.specs.Device.{body_after_slot, copy_in_slot, state_after_slot}
use Rattle.device.proofs.LineState.slot.Goals as goal

pub returns : goal.returns
unfolding state_after_slot body_after_slot copy_in_slot
returns c = search rules

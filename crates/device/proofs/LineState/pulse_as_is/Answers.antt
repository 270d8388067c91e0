use Rattle.std.proofs.Common.{rules}
use Rattle.device.specs.Device.{body_after_pulse_as_is, state_after_pulse_as_is}
use Rattle.device.proofs.LineState.pulse_as_is.Goals as goal

pub returns : goal.returns
unfolding state_after_pulse_as_is body_after_pulse_as_is
returns c = search rules

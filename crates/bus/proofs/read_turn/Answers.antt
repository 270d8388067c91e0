use Rattle.bus.specs.Loops.{heard_state_as_is, device_in, device_at_place}
use Rattle.bus.proofs.Idle.{other-pulse}
use Rattle.bus.proofs.read_turn.Goals as goal

pub returns-in-Reset : goal.returns-in-Reset
unfolding heard_state_as_is
returns-in-Reset c = rw c.in-Reset.is c.at_reset.ensures

pub returns-in-OverdriveReset : goal.returns-in-OverdriveReset
unfolding heard_state_as_is
returns-in-OverdriveReset c = rw c.in-OverdriveReset.is c.at_reset-in-OverdriveReset.ensures

pub returns-in_default : goal.returns-in_default
unfolding heard_state_as_is device_in device_at_place
returns-in_default c =
    rw (other-pulse c.args.event c.requires c.in_default.not-Reset c.in_default.not-OverdriveReset)
    (rw (← c.place_of-start.ensures) c.pulsed_as_is.ensures)

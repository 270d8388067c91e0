use Rattle.std.proofs.Common.{arith}
use Rattle.std.proofs.lemmas.Grind.{common_steps}
use Rattle.bus.specs.Bus.{device_with, hears, unheard_state}
use Rattle.bus.specs.Loops.{heard_state_as_is, next_state_as_is}
use Rattle.judge.proofs.Way.{after-regular, after-overdrive}
use Rattle.judge.proofs.after_event.Goals as goal

pub returns-in-Slot : goal.returns-in-Slot
returns-in-Slot c =
    let d = device_with c.args.kind c.args.body.now c.args.state in
    grind (arith, common_steps, after-regular c.in-Slot.field-0 c.args.level d)

pub returns-in-Reset : goal.returns-in-Reset
unfolding next_state_as_is hears heard_state_as_is unheard_state
returns-in-Reset c = grind (arith, common_steps)

pub returns-in-Pulse : goal.returns-in-Pulse
unfolding next_state_as_is hears heard_state_as_is unheard_state
returns-in-Pulse c = grind (arith, common_steps)

pub returns-in-OverdriveSlot : goal.returns-in-OverdriveSlot
returns-in-OverdriveSlot c =
    let d = device_with c.args.kind c.args.body.now c.args.state in
    grind (arith, common_steps, after-overdrive c.in-OverdriveSlot.field-0 c.args.level d)

pub returns-in-OverdriveReset : goal.returns-in-OverdriveReset
unfolding next_state_as_is hears heard_state_as_is unheard_state
returns-in-OverdriveReset c = grind (arith, common_steps)

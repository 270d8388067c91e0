use Rattle.std.proofs.Common.{arith}
use Rattle.std.proofs.lemmas.Grind.{common_steps}
use Rattle.bus.specs.Bus.{hears, is_slot}
use Rattle.judge.specs.Loops.{slot_at}
use Rattle.judge.proofs.is_slot_at.Goals as goal

pub returns-in-Slot : goal.returns-in-Slot
unfolding slot_at is_slot hears
returns-in-Slot c = grind (arith, common_steps)

pub returns-in-OverdriveSlot : goal.returns-in-OverdriveSlot
unfolding slot_at is_slot hears
returns-in-OverdriveSlot c = grind (arith, common_steps)

pub returns-in_default : goal.returns-in_default
unfolding slot_at is_slot hears
returns-in_default c = grind (arith, common_steps)

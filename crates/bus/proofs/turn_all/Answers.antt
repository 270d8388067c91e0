use Rattle.std.proofs.Common.{true, refl, sym, ◌∙◌}
use Rattle.bus.specs.Bus.{event_of, is_slot}
use Rattle.bus.proofs.Idle.{other-pulse}
use Rattle.bus.proofs.Loops.{same-turns}
use Rattle.bus.proofs.turn_all.Goals as goal

pub turn_each-requires : goal.turn_each-requires
unfolding event_of is_slot
turn_each-requires c = (c.requires.0, refl)

pub turn_each-requires-in-OverdriveReset : goal.turn_each-requires-in-OverdriveReset
unfolding event_of is_slot
turn_each-requires-in-OverdriveReset c = (c.requires.0, refl)

pub turn_each-requires-in_default : goal.turn_each-requires-in_default
unfolding event_of is_slot
turn_each-requires-in_default c = (c.requires.0, refl)

pub returns-in-Reset : goal.returns-in-Reset
unfolding event_of
returns-in-Reset c =
    c.turn_each.ensures ∙ same-turns 2 c.args.byte (sym c.in-Reset.is ∙ c.from.ensures) true c.args.n _

pub returns-in-OverdriveReset : goal.returns-in-OverdriveReset
unfolding event_of
returns-in-OverdriveReset c =
    c.turn_each-in-OverdriveReset.ensures ∙ same-turns 6 c.args.byte (sym c.in-OverdriveReset.is ∙ c.from.ensures) true c.args.n _

pub returns-in_default : goal.returns-in_default
unfolding event_of
returns-in_default c =
    let pulse = other-pulse _ (rw c.from.ensures c.requires.1) c.in_default.not-Reset c.in_default.not-OverdriveReset in
    c.turn_each-in_default.ensures ∙ same-turns 3 c.args.byte (sym pulse ∙ c.from.ensures) true c.args.n _

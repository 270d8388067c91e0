use Rattle.std.proofs.Common.{◌≡◌, true}
use Rattle.bus.specs.Loops.{bus_state, turns_up_to}
use Rattle.bus.proofs.turn_each.Given as goal

-- The devices before place i have had their part.
abbrev pub invariant-loop-i : goal.invariant-loop-i
invariant-loop-i g l = bus_state l.image l.lines ≡ turns_up_to g.row.BYTE true l.i (bus_state l.fn.image l.fn.lines)

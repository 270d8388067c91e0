use Rattle.std.proofs.Common.{◌≡◌, true}
use Rattle.bus.proofs.States.{steps}
use Rattle.bus.proofs.read_turn_all.Given as goal

-- The devices before place i have had their part.
abbrev pub invariant-loop-i : goal.invariant-loop-i
invariant-loop-i l = l.lines ≡ steps l.image l.byte true l.i l.fn.lines

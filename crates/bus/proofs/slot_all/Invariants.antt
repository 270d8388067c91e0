use Rattle.std.proofs.Common.{◌≡◌, ◌≤◌, ◌<◌, ◌-◌, true}
use Rattle.bus.specs.Loops.{slot_byte, ends_in, line_at, bus_state, turns_up_to, copied_up_to}
use Rattle.bus.proofs.slot_all.Given as goal

-- The devices before place i have had their part, and more happens to the one at place i than a shift.
abbrev pub invariant-loop-i : goal.invariant-loop-i
invariant-loop-i l = record {
  in_range : l.i ≤ l.n;
  copied : l.copied ≡ copied_up_to (slot_byte l.overdrive) l.level l.i (bus_state l.fn.image l.fn.lines);
  state : bus_state l.image l.lines ≡ turns_up_to (slot_byte l.overdrive) l.level l.i (bus_state l.fn.image l.fn.lines);
  stops : l.i < l.n → ends_in l.overdrive (line_at l.lines l.i) ≡ true;
}

abbrev pub decreases-loop-i : goal.decreases-loop-i
decreases-loop-i l = l.n - l.i

use Rattle.std.proofs.Common.{◌≡◌, ◌≤◌, ◌-◌, take}
use Rattle.bus.specs.Bus.{event_of}
use Rattle.bus.specs.Loops.{up_to_low}
use Rattle.bus.proofs.Levels.{high_after}
use Rattle.bus.proofs.level.Given as goal

-- The scan has not gone past its end, and the device that was looked at last has left the line high or not.
abbrev pub invariant-loop-high : goal.invariant-loop-high
invariant-loop-high l = record {
  in_range : l.looked ≤ up_to_low (event_of l.byte) (take l.asked l.lines);
  so_far : l.high ≡ high_after (event_of l.byte) l.lines l.looked;
}

abbrev pub decreases-loop-high : goal.decreases-loop-high
decreases-loop-high l = l.asked - l.looked

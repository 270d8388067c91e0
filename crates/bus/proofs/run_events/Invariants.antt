use Rattle.std.proofs.Common.{◌≡◌}
use Rattle.bus.specs.Loops.{run_state, run_events_up_to, copied_by_events}
use Rattle.bus.proofs.run_events.Given as goal

-- The first k events have been.
abbrev pub invariant-loop-k : goal.invariant-loop-k
invariant-loop-k l = record {
  copied : l.copied ≡ copied_by_events l.trace l.n l.k (run_state l.fn.image l.fn.answers l.fn.lines);
  state : run_state l.image l.answers l.lines ≡ run_events_up_to l.trace l.n l.k (run_state l.fn.image l.fn.answers l.fn.lines);
}

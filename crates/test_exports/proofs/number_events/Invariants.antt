use Rattle.std.proofs.Common.{◌≡◌}
use Rattle.bus.specs.Loops.{run_state, run_events_up_to}
use Rattle.test_exports.specs.Loops.{numbers}
use Rattle.test_exports.proofs.number_events.Given as goal

abbrev pub invariant-loop-k : goal.invariant-loop-k
invariant-loop-k l = record {
  ran : l.image ≡ (run_events_up_to l.trace l.n l.k (run_state l.initial.image l.initial.looked l.initial.lines)).image;
  lined : l.lines ≡ (run_events_up_to l.trace l.n l.k (run_state l.initial.image l.initial.looked l.initial.lines)).lines;
  numbered : l.looked ≡ numbers l.trace l.n l.k (run_state l.initial.image l.initial.looked l.initial.lines);
}

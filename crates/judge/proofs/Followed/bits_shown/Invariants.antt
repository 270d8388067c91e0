use Rattle.std.proofs.Common.{◌≡◌, ◌-◌, ◌≤◌}
use Rattle.judge.specs.Loops.{shown_from}
use Rattle.judge.proofs.Followed.bits_shown.Given as goal

-- The bits before this one are shown, and the others are still due.
abbrev pub invariant-loop-event : goal.invariant-loop-event
invariant-loop-event l = record {
  in_range : l.at ≤ l.count;
  so_far : shown_from l.self.recording.trace.now l.self.recording.answers.now l.self.body.now l.overdrive l.at (l.count - l.at) l.event (l.end - l.event)
      ≡ shown_from l.self.recording.trace.now l.self.recording.answers.now l.self.body.now l.overdrive 0 l.count l.k (l.end - l.k);
}

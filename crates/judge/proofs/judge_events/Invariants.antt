use Rattle.std.proofs.Common.{◌≡◌, ◌≤◌, ◌-◌, length}
use Rattle.judge.specs.declared.Verdict.TheVariants.{Accepted}
use Rattle.judge.specs.Judge.{so_far}
use Rattle.judge.specs.Loops.{judge_state, judge_events_up_to}
use Rattle.judge.proofs.judge_events.Given as goal

-- The reader goes over this trace and these answers, and the events before its place have been.
abbrev pub invariant-loop-recording : goal.invariant-loop-recording
invariant-loop-recording l = record {
  in_range : l.recording.at ≤ length l.trace;
  trace : l.recording.trace.now ≡ l.trace;
  answers : l.recording.answers.now ≡ l.answers;
  state : judge_state (so_far l.verdict) l.work l.lines
      ≡ judge_events_up_to l.trace l.answers l.n l.recording.at (judge_state Accepted l.fn.work l.fn.lines);
}

abbrev pub decreases-loop-recording : goal.decreases-loop-recording
decreases-loop-recording l = length l.trace - l.recording.at

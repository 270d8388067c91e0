use Rattle.std.proofs.Common.{◌≡◌}
use Rattle.judge.specs.Loops.{seen_up_to}
use Rattle.judge.proofs.look.Given as goal

-- The devices before place i have been looked at.
abbrev pub invariant-loop-i : goal.invariant-loop-i
invariant-loop-i l = l.seen ≡ seen_up_to l.recording.trace.now l.recording.answers.now l.image l.lines l.recording.at l.i

use Rattle.std.proofs.Common.{◌≡◌, false}
use Rattle.judge.specs.Loops.{back_from, careful_by, careful_at}
use Rattle.judge.proofs.Followed.is_careful.Given as goal

-- The walk has come back to event j, and has not found the last write.
abbrev pub invariant-loop-j : goal.invariant-loop-j
invariant-loop-j l = record {
  looks : l.back.decided ≡ false;
  so_far : careful_by (back_from l.self.recording.trace.now l.self.recording.answers.now l.self.kind l.self.body.now l.j l.back)
      ≡ careful_at l.self.recording.trace.now l.self.recording.answers.now l.self.kind l.self.body.now l.overdrive l.end;
}

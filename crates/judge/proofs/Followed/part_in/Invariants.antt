use Rattle.std.proofs.Common.{◌≡◌, ◌-◌, false}
use Rattle.device.specs.Device.{reset_at}
use Rattle.judge.specs.Loops.{part_so, part_over}
use Rattle.judge.proofs.Followed.part_in.Given as goal

abbrev pub invariant-loop-k : goal.invariant-loop-k
invariant-loop-k l =
    part_over l.self.recording.trace.now l.self.recording.answers.now l.self.kind l.self.body.now l.end l.state l.part l.k (l.end - l.k)
    ≡ part_over l.self.recording.trace.now l.self.recording.answers.now l.self.kind l.self.body.now l.end (reset_at l.overdrive) (part_so false false) l.from (l.end - l.from)

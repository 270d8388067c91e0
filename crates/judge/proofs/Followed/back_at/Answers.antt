use Rattle.std.proofs.Common.{arith}
use Rattle.std.proofs.lemmas.Grind.{common_steps}
use Rattle.bus.specs.Bus.{event_of}
use Rattle.judge.specs.Loops.{back_at, part_from}
use Rattle.judge.proofs.Followed.back_at.Goals as goal
use Rattle.judge.proofs.Followed.back_at.Goals.{in-OverdriveReset, in_default}

pub returns-after-matches : goal.returns-after-matches
unfolding back_at part_from event_of
returns-after-matches c = elim c.match-matches.branch [
  | in-OverdriveReset w ↦ grind (arith, common_steps)
  | in_default w ↦ grind (arith, common_steps)
]

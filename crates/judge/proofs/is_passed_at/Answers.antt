use Rattle.std.proofs.Common.{arith}
use Rattle.std.proofs.lemmas.Grind.{common_steps}
use Rattle.bus.specs.Bus.{hears, is_overdrive}
use Rattle.judge.specs.Loops.{passed_at}
use Rattle.judge.proofs.is_passed_at.Goals as goal
use Rattle.judge.proofs.is_passed_at.Goals.{in-OverdriveSlot, in_default}

pub returns : goal.returns
unfolding passed_at is_overdrive hears
returns c = elim c.match-matches.branch [
  | in-OverdriveSlot w ↦ grind (arith, common_steps)
  | in_default w ↦ grind (arith, common_steps)
]

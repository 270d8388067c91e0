use Rattle.std.proofs.Common.{arith}
use Rattle.std.proofs.lemmas.Grind.{common_steps}
use Rattle.recording.specs.Recorded.{level_at}
use Rattle.recording.proofs.Recording.level.Goals as goal

pub returns : goal.returns
unfolding level_at
returns c = grind (arith, common_steps)

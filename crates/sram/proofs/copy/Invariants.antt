use Rattle.std.proofs.Common.{◌≡◌, take, drop}
use lib.Seq.{sets}
use Rattle.sram.proofs.copy.Given as goal

abbrev pub invariant-loop-k : goal.invariant-loop-k
invariant-loop-k l = l.body ≡ sets l.initial.body l.to (take l.k (drop l.from l.initial.body))

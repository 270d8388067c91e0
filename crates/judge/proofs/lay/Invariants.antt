use Rattle.std.proofs.Common.{◌≡◌, drop}
use Rattle.std.proofs.lemmas.List.Edits.{sets}
use Rattle.judge.proofs.lay.Given as goal

-- What is left of the image goes behind the bytes that are laid.
abbrev pub invariant-loop-k : goal.invariant-loop-k
invariant-loop-k l = sets l.work l.k (drop l.k l.image) ≡ sets l.initial.work 0 l.image

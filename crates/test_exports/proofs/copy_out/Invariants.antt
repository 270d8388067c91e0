use Rattle.std.proofs.Common.{◌≡◌, drop}
use Rattle.std.proofs.lemmas.List.Edits.{sets}
use Rattle.test_exports.proofs.copy_out.Given as goal

-- What is left of the part goes behind the bytes that are copied.
abbrev pub invariant-loop-i : goal.invariant-loop-i
invariant-loop-i l = sets l.into l.i (drop l.i l.part) ≡ sets l.initial.into 0 l.part

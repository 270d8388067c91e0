use Rattle.std.proofs.Common.{◌≡◌, ◌+◌, drop}
use Rattle.std.proofs.lemmas.List.Edits.{sets}
use Rattle.master.proofs.driving.put_code.Given as goal

abbrev pub invariant-loop-i : goal.invariant-loop-i
invariant-loop-i l = sets l.codes (l.at + l.i) (drop l.i l.byte-items) ≡ sets l.initial.codes l.at l.byte-items

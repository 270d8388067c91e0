use mathlib.Core.Path.{sym}
use Rattle.image.specs.Refusal.{told_number}
use Rattle.test_exports.proofs.Numbers.{after-refused}
use Rattle.test_exports.proofs.probe_looked.Goals as goal

pub number_copy-requires : goal.number_copy-requires
unfolding told_number
number_copy-requires c = sym c.in-Ok.ensures

pub returns-in-Ok : goal.returns-in-Ok
unfolding told_number
returns-in-Ok c = (c.in-Ok.ensures, c.number_copy.ensures)

pub returns-in-Err : goal.returns-in-Err
unfolding told_number
returns-in-Err c =
    let s = c.args in
    rw c.from.ensures (c.in-Err.ensures, after-refused c.in-Err.refusal s.image.now s.trace.now s.looked.now)

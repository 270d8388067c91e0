use Rattle.std.proofs.Common.{sym, arith}
use Rattle.std.proofs.lemmas.Grind.{common_steps}
use Rattle.image.specs.Refusal.{told_number, refusal_number}
use Rattle.judge.proofs.Laws.{refused-as-run, judged-room}
use Rattle.judge.proofs.check.Goals as goal

pub returns-in_err-check : goal.returns-in_err-check
unfolding told_number refusal_number
returns-in_err-check c =
    let a = c.args in
    grind (arith, common_steps, refused-as-run a.image.now a.trace.now a.answers a.work a.lines)

pub returns-then-answers-trace : goal.returns-then-answers-trace
unfolding told_number refusal_number
returns-then-answers-trace c =
    let a = c.args in
    grind (arith, common_steps, judged-room a.image.now a.trace.now a.answers a.work a.lines (sym c.in_ok-check.ensures))

pub returns-then-work-image : goal.returns-then-work-image
unfolding told_number refusal_number
returns-then-work-image c =
    let a = c.args in
    grind (arith, common_steps, judged-room a.image.now a.trace.now a.answers a.work a.lines (sym c.in_ok-check.ensures))

pub returns : goal.returns
unfolding told_number
returns c =
    let a = c.args in
    grind (arith, common_steps, judged-room a.image.now a.trace.now a.answers a.work a.lines (sym c.in_ok-check.ensures))

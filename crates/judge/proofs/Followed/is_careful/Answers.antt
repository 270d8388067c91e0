use Rattle.std.proofs.Common.{◌-◌, arith, refl, sym, ap, ◌∙◌}
use Rattle.judge.specs.declared.Back.{Back}
use Rattle.judge.specs.Loops.{back_from, careful_by, careful_at}
use Rattle.judge.proofs.Laws.{back_step, back_done, back_none}
use Rattle.judge.proofs.Followed.is_careful.Goals as goal

pub loop-j-init : goal.loop-j-init
unfolding careful_at
loop-j-init c = record { looks = refl; so_far = refl }

pub returns-then-back : goal.returns-then-back
returns-then-back c =
    let r = c.args.self.recording in
    let f = c.args.self in
    let l = c.loop-j in
    sym (back_done r.trace.now r.answers.now f.kind f.body.now (l.j - 1) c.back_at-back.result c.if-back.true)
    ∙ ap (λ (b : Back). careful_by (back_from r.trace.now r.answers.now f.kind f.body.now (l.j - 1) b)) c.back_at-back.ensures
    ∙ ap careful_by (sym (back_step r.trace.now r.answers.now f.kind f.body.now l.j l.back c.loop-j-test.true l.invariant.looks))
    ∙ l.invariant.so_far

pub loop-j-preserved : goal.loop-j-preserved
loop-j-preserved c =
    let r = c.args.self.recording in
    let f = c.args.self in
    let l = c.loop-j in
    record {
      looks = c.if-back.false;
      so_far = ap (λ (b : Back). careful_by (back_from r.trace.now r.answers.now f.kind f.body.now (l.j - 1) b)) c.back_at-back.ensures
          ∙ ap careful_by (sym (back_step r.trace.now r.answers.now f.kind f.body.now l.j l.back c.loop-j-test.true l.invariant.looks))
          ∙ l.invariant.so_far;
    }

pub returns : goal.returns
returns c =
    let r = c.args.self.recording in
    let f = c.args.self in
    let l = c.loop-j in
    sym (back_none r.trace.now r.answers.now f.kind f.body.now l.j l.back (omega (arith, c.loop-j-test.false)) l.invariant.looks)
    ∙ l.invariant.so_far

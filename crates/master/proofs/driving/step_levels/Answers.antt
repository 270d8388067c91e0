use Rattle.std.proofs.Common.{◌≡◌, ◌∙◌, ℕ, get_or, refl, sym, ap, subst, arith}
use Rattle.master.specs.declared.Answer.{Answer}
use Rattle.master.specs.declared.Master.{Master}
use Rattle.master.specs.declared.Step.{Step}
use Rattle.master.specs.Master.{fresh_master, step_of}
use Rattle.master.proofs.Stepping.{Feeding, stepping-start, feeding-on, feeding-ended, feeding-used}
use Rattle.master.proofs.driving.step_levels.Goals as goal

pub loop-step-init : goal.loop-step-init
loop-step-init c =
    let a = c.args in
    let s = c.step-step.result in
    let made : s ≡ step_of fresh_master 0 = c.step-step.ensures.0 ∙ ap (λ (m : Master). step_of m 0) c.fresh.ensures in (
      omega arith,
      refl,
      refl,
      subst (λ (x : Step). Feeding a.levels.now a.trace.now a.codes.now x.answer x.next 0 a.trace.now a.codes.now)
          (sym made) (stepping-start a.levels.now a.trace.now a.codes.now (step_of fresh_master 0).answer refl),
    )

pub returns-in-End : goal.returns-in-End
returns-in-End c =
    let l = c.loop-step in
    let a = c.args in
    rw c.from.ensures
    (feeding-ended _
    (subst (λ (x : Answer). Feeding a.levels.now a.trace.now a.codes.now x l.step.next l.sent l.trace l.codes) c.in-End.is l.invariant.3))

pub returns-in_default : goal.returns-in_default
returns-in_default c =
    let l = c.loop-step in
    let a = c.args in
    rw (c.from-in_default.ensures, c.put_byte.ensures)
    (feeding-used
    (subst (λ (x : Answer). Feeding a.levels.now a.trace.now a.codes.now x l.step.next l.sent l.trace l.codes) c.in-Event.is l.invariant.3)
    c.in_default.ensures.lookup.3)

pub loop-step-preserved : goal.loop-step-preserved
loop-step-preserved c =
    let l = c.loop-step in
    let a = c.args in
    let s = c.step-step-in-loop-step in
    let read = c.in-Some.ensures.lookup.3 in
    let stepped : s.result ≡ step_of l.step.next (get_or a.levels.now l.sent 0) = s.ensures.0 ∙ ap (λ (level : ℕ). step_of l.step.next level) (read.1 0) in (
      omega arith,
      omega arith,
      omega arith,
      feeding-on s.result.answer
          (subst (λ (x : Answer). Feeding a.levels.now a.trace.now a.codes.now x l.step.next l.sent l.trace l.codes) c.in-Event.is l.invariant.3)
          read.0 (ap (λ (x : Step). x.next) stepped) (ap (λ (x : Step). x.answer) stepped) c.put_byte.ensures c.keep_code.ensures,
    )

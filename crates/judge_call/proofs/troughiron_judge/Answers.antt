use Rattle.std.proofs.Common.{sym, ap, ◌∙◌}
use Rattle.judge.specs.Judge.{refusal_of, rule_of, broken_at}
use Rattle.judge_call.proofs.Laws.{sees-verdict, sees-unjudged}
use Rattle.judge_call.proofs.troughiron_judge.Goals as goal
use Rattle.judge_call.proofs.troughiron_judge.Goals.{then-is_ok, else-is_ok}

pub returns : goal.returns
returns c =
    let o = c.judge_own-answer in
    let a = c.args in
    let told-is = c.from-verdict.ensures in
    let number = c.refusal_of.ensures ∙ ap refusal_of told-is in
    elim c.if-is_ok.branch [
      | then-is_ok w ↦
          sees-verdict _ a.rule.now a.event.now o.result _ o.ensures _ number (sym c.is_ok.ensures.value ∙ w.if-is_ok.true) _ _
          (w.rule-is ∙ w.rule_of.ensures ∙ ap rule_of told-is) (w.event-is ∙ w.event_of.ensures ∙ ap broken_at told-is)
      | else-is_ok w ↦
          sees-unjudged _ a.rule.now a.event.now o.result _ o.ensures _ number (sym c.is_ok.ensures.value ∙ w.if-is_ok.false) _ _
          w.rule-is w.event-is
    ]

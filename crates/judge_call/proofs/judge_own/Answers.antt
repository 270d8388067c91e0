use Rattle.std.proofs.Common.{replicate, ap, ◌∙◌}
use Rattle.device.specs.declared.LineState.{LineState}
use Rattle.judge.specs.Judge.{JudgeOutcome, judge_of}
use Rattle.judge_call.specs.Host.{host_judge}
use Rattle.judge_call.proofs.judge_own.Goals as goal

pub returns : goal.returns
unfolding host_judge
returns c =
    let same = ap (λ (l : LineState). judge_of c.args.image.now c.args.trace.now c.args.answers.now c.args.work.now (replicate 64 l))
    c.waiting-lines.ensures in
    record {
      verdict-is = c.judge.ensures.verdict-is ∙ ap (λ (o : JudgeOutcome). o.verdict) same;
      work-is = c.judge.ensures.work-is ∙ ap (λ (o : JudgeOutcome). o.work) same;
    }

use Rattle.std.proofs.Common.{replicate, ap, ◌∙◌}
use Rattle.device.specs.declared.LineState.{LineState}
use Rattle.bus.specs.Run.{RunOutcome, run_of}
use Rattle.troughiron.specs.Host.{host_run}
use Rattle.troughiron.proofs.run_own.Goals as goal

pub returns : goal.returns
unfolding host_run
returns c =
    let same = ap (λ (l : LineState). run_of c.args.image.now c.args.trace.now c.args.answers.now (replicate 64 l))
    c.waiting-lines.ensures in
    record {
      result-is = c.run.ensures.result-is ∙ ap (λ (o : RunOutcome). o.result) same;
      image-is = c.run.ensures.image-is ∙ ap (λ (o : RunOutcome). o.image) same;
      answers-are = c.run.ensures.answers-are ∙ ap (λ (o : RunOutcome). o.answers) same;
    }

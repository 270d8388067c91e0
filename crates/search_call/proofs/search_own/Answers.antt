use Rattle.std.proofs.Common.{replicate, ap, ◌∙◌}
use Rattle.device.specs.declared.LineState.{LineState}
use Rattle.search.specs.Found.{SearchOutcome, search_outcome_of}
use Rattle.search_call.specs.Host.{host_search}
use Rattle.search_call.proofs.search_own.Goals as goal

pub returns : goal.returns
unfolding host_search
returns c =
    let same = ap (λ (l : LineState). search_outcome_of c.args.image.now c.args.codes.now c.args.trace.now (replicate 64 l)) c.waiting-lines.ensures in
    let left = c.search.ensures in (
      record {
        found-is = left.0.found-is ∙ ap (λ (o : SearchOutcome). o.found) same;
        codes-are = left.0.codes-are ∙ ap (λ (o : SearchOutcome). o.codes) same;
        trace-is = left.0.trace-is ∙ ap (λ (o : SearchOutcome). o.trace) same;
      },
      left.1,
    )

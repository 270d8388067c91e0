use Rattle.std.proofs.Common.{◌∙◌, sym}
use Rattle.std.proofs.lemmas.List.{take_all}
use Rattle.search.proofs.Counts.{resets_counted}
use Rattle.search.proofs.resets_in.Goals as goal

pub returns : goal.returns
returns c = rw (take_all _ c.args.trace.now c.loop-event-test.false) at c.loop-event.invariant ∙ sym (resets_counted c.args.trace.now)

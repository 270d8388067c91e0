use Rattle.std.proofs.Common.{◌∙◌, sym}
use Rattle.std.proofs.lemmas.List.{take_all}
use Rattle.search.proofs.Counts.{slots_counted}
use Rattle.search.proofs.slots_in.Goals as goal

pub returns : goal.returns
returns c = rw (take_all _ c.args.trace.now c.loop-event-test.false) at c.loop-event.invariant ∙ sym (slots_counted c.args.trace.now)

use Rattle.std.proofs.Common.{◌-◌, length}
use Rattle.search_laws.specs.Search.{search_of}
use Rattle.search.proofs.Loop.{Begun}
use Rattle.search.proofs.exchange.Given as goal

abbrev pub invariant-loop-event : goal.invariant-loop-event
invariant-loop-event l = Begun l.image l.fn.codes l.fn.trace l.fn.lines l.sent l.master l.level l.codes l.trace l.lines

abbrev pub decreases-loop-event : goal.decreases-loop-event
decreases-loop-event l = length (search_of l.image).trace - l.sent

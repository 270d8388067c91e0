use Rattle.std.proofs.Common.{◌≡◌, ltb, take}
use Rattle.std.specs.List.{count_by}
use Rattle.search.proofs.slots_in.Given as goal

abbrev pub invariant-loop-event : goal.invariant-loop-event
invariant-loop-event l = l.count ≡ count_by (λ x. ltb x 2) (take l.event-index l.trace)

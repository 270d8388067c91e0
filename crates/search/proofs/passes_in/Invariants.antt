use Rattle.std.proofs.Common.{◌≡◌, ◌≤◌, ◌+◌, length}
use Rattle.std.specs.Slice.Iter.{windows_rest, windows_size}
use Rattle.search_laws.specs.Words.{passes_in}
use Rattle.search.proofs.passes_in.Given as goal

-- What is left is counted in the pairs that are left.
abbrev pub invariant-loop-pair : goal.invariant-loop-pair
invariant-loop-pair l = record {
  can_next : (goal.iterator-loop-pair).can_next l.pair-iterator;
  finite : (goal.iterator-loop-pair).is_finite l.pair-iterator;
  size : windows_size l.pair-iterator ≡ 2;
  few : l.count + length (windows_rest l.pair-iterator) ≤ length l.trace;
  counted : l.count + passes_in (windows_rest l.pair-iterator) ≡ passes_in l.trace;
}

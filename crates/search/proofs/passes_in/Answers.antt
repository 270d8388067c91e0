use Rattle.std.proofs.Common.{◌<◌, length, arith}
use Rattle.std.specs.Slice.Iter.{windows_rest}
use Rattle.search.proofs.Counts.{pair-counted, pair-left, passes-end}
use Rattle.search.proofs.passes_in.Goals as goal

pub loop-pair-preserved-then-begins_pass : goal.loop-pair-preserved-then-begins_pass
loop-pair-preserved-then-begins_pass c =
    let v = c.loop-pair.invariant in
    let s = c.in-Some.ensures.steps in
    let counted = pair-counted _ v.size s.1.0 s.1.1 s.1.2 _ c.if-begins_pass.ensures in
    let left = pair-left _ v.size s.1.0 s.1.1 s.1.2 in
    record { can_next = omega arith; finite = tt; size = omega arith; few = omega arith; counted = omega arith }

pub loop-pair-preserved : goal.loop-pair-preserved
loop-pair-preserved c =
    let v = c.loop-pair.invariant in
    let s = c.in-Some.ensures.steps in
    let counted = pair-counted _ v.size s.1.0 s.1.1 s.1.2 _ c.if-begins_pass.ensures in
    let left = pair-left _ v.size s.1.0 s.1.1 s.1.2 in
    record { can_next = omega arith; finite = tt; size = omega arith; few = omega arith; counted = omega arith }

pub returns : goal.returns
returns c =
    let v = c.loop-pair.invariant in
    let s = c.in-None.ensures.steps in
    let few : length (windows_rest c.loop-pair.pair-iterator) < 2 = omega arith in
    let none = passes-end _ few in
    omega arith

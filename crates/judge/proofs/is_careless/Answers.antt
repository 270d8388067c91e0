use Rattle.std.proofs.Common.{arith}
use Rattle.bus.proofs.Laws.{inside_of}
use Rattle.judge.proofs.is_careless.Goals as goal

pub slice_bounds-body-count : goal.slice_bounds-body-count
slice_bounds-body-count c =
    let inside = inside_of _ _ _ c.place_of-place.ensures in
    omega arith

pub slice_bounds-body-start : goal.slice_bounds-body-start
slice_bounds-body-start c =
    let inside = inside_of _ _ _ c.place_of-place.ensures in
    omega arith

pub slice_bounds-body-end : goal.slice_bounds-body-end
slice_bounds-body-end c =
    let inside = inside_of _ _ _ c.place_of-place.ensures in
    omega arith

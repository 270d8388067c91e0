use Rattle.std.proofs.Common.{sym}
use Rattle.std.proofs.lemmas.Result.{err_from_is_err_and}
use Rattle.image.specs.Refusal.{told_number, refusal_number}
use Rattle.search.proofs.Counts.{image-decides, room-decides}
use Rattle.search.proofs.check.Goals as goal

pub returns-in_err-check : goal.returns-in_err-check
unfolding told_number
returns-in_err-check c =
    let p = err_from_is_err_and c.from_residual.result c.from_residual.ensures.1 in
    rw (p.1, p.2) (image-decides _ c.args.image.now c.args.codes c.args.trace c.args.lines c.in_err-check.ensures, λ k. (c.type_inv.image k).fits)

pub returns-then-lacks_room : goal.returns-then-lacks_room
unfolding told_number refusal_number
returns-then-lacks_room c =
    let a = c.args in
    (simp (room-decides a.image.now a.codes a.trace a.lines (sym c.in_ok-check.ensures), sym c.if-lacks_room.ensures), λ k. (c.type_inv.image k).fits)

pub returns : goal.returns
unfolding told_number
returns c =
    let a = c.args in
    (simp (room-decides a.image.now a.codes a.trace a.lines (sym c.in_ok-check.ensures), sym c.if-lacks_room.ensures), λ k. (c.type_inv.image k).fits)

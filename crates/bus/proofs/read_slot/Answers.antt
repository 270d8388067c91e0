use mathlib.Core.Path.{◌∙◌}
use Rattle.bus.proofs.Idle.{own-heard, other-unheard, unheard-slot-state, ends-busy, ends-lost, heard-slot-state}
use Rattle.bus.proofs.Laws.{place-has}
use Rattle.bus.proofs.read_slot.Goals as goal

pub returns-then-state-overdrive : goal.returns-then-state-overdrive
returns-then-state-overdrive c =
    let a = c.args in
    let deaf = other-unheard a.state a.overdrive c.if-state-overdrive.true in
    c.waiting.ensures
    ∙ ends-lost a.overdrive a.state c.requires deaf
    ∙ unheard-slot-state a.state a.overdrive deaf a.image.now a.i a.level

pub returns : goal.returns
returns c =
    let p = c.place_of-kind in
    let a = c.args in
    let heard = own-heard a.state a.overdrive c.if-state-overdrive.false in
    let busy = ends-busy a.overdrive a.state c.requires heard in
    let own = place-has a.image.now a.i p.result p.ensures in
    rw (heard-slot-state a.state a.overdrive heard busy a.image.now a.i a.level, own.0, own.1)
    c.step_as_is.ensures

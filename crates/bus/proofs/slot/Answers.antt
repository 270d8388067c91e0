use mathlib.Core.Path.{◌∙◌}
use borrow.Rule.Slice.PartMut.{Post-is}
use Rattle.device.specs.Device.{bytes_in_slot_as_is}
use Rattle.bus.specs.Loops.{slot_turn, image_with_body}
use Rattle.bus.proofs.Idle.{own-heard, other-unheard, unheard-slot-state, unheard-slot-image, unheard-slot-copied}
use Rattle.bus.proofs.Idle.{ends-busy, ends-lost, heard-slot-state, heard-slot-image, heard-slot-copied}
use Rattle.bus.proofs.Laws.{inside_of, place-has}
use Rattle.bus.proofs.slot.Goals as goal

pub returns-then-state-overdrive : goal.returns-then-state-overdrive
returns-then-state-overdrive c =
    let a = c.args in
    let deaf = other-unheard a.state a.overdrive c.if-state-overdrive.true in
    let lost = ends-lost a.overdrive a.state c.requires deaf in
    let next = c.waiting-next.ensures ∙ lost ∙ unheard-slot-state a.state a.overdrive deaf a.image.now a.i a.level in (
      (λ j. slot_turn (next j) (unheard-slot-copied a.state a.overdrive deaf a.image.now a.i a.level j)),
      unheard-slot-image a.state a.overdrive deaf a.image.now a.i a.level,
    )

pub returns : goal.returns
unfolding image_with_body bytes_in_slot_as_is
returns c =
    let w = c.slot_as_is-stepped in
    let p = c.place_of-kind in
    let a = c.args in
    let heard = own-heard a.state a.overdrive c.if-state-overdrive.false in
    let busy = ends-busy a.overdrive a.state c.requires heard in
    let own = place-has a.image.now a.i p.result p.ensures in
    let inside = inside_of _ _ _ p.ensures in (
      rw (
        heard-slot-state a.state a.overdrive heard busy a.image.now a.i a.level,
        heard-slot-copied a.state a.overdrive heard busy a.image.now a.i a.level,
        own.0,
        own.1,
        c.from-copied.ensures,
        c.bytes.ensures,
        w.ensures.0,
      ),
      rw (
        heard-slot-image a.state a.overdrive heard busy a.image.now a.i a.level,
        own.0,
        own.1,
        ← p.ensures,
        Post-is p.result.start p.result.end a.image.now inside.rising,
        w.ensures.1,
      ),
    )

use borrow.Rule.Slice.PartMut.{Post-is}
use Rattle.bus.specs.Loops.{heard_state_as_is, heard_body_as_is, device_in, device_at_place, image_with_body}
use Rattle.bus.proofs.Idle.{other-pulse}
use Rattle.bus.proofs.Laws.{inside_of}
use Rattle.bus.proofs.turn.Goals as goal

pub returns-in-Reset : goal.returns-in-Reset
unfolding heard_state_as_is heard_body_as_is device_in device_at_place image_with_body
returns-in-Reset c =
    let n = c.reset_as_is in
    let p = c.place_of-start in
    let inside = inside_of _ _ _ p.ensures in
    rw c.in-Reset.is (
      n.ensures.0,
      rw (← p.ensures, Post-is p.result.start p.result.end c.args.image.now inside.rising, n.ensures.1),
    )

pub returns-in-OverdriveReset : goal.returns-in-OverdriveReset
unfolding heard_state_as_is heard_body_as_is device_in device_at_place image_with_body
returns-in-OverdriveReset c =
    let n = c.reset_as_is-in-OverdriveReset in
    let p = c.place_of-start in
    let inside = inside_of _ _ _ p.ensures in
    rw c.in-OverdriveReset.is (
      n.ensures.0,
      rw (← p.ensures, Post-is p.result.start p.result.end c.args.image.now inside.rising, n.ensures.1),
    )

pub returns-in_default : goal.returns-in_default
unfolding heard_state_as_is heard_body_as_is device_in device_at_place image_with_body
returns-in_default c =
    let n = c.pulse_as_is in
    let p = c.place_of-start in
    let inside = inside_of _ _ _ p.ensures in
    rw (other-pulse c.args.event c.requires c.in_default.not-Reset c.in_default.not-OverdriveReset) (
      rw (← p.ensures) n.ensures.0,
      rw (← p.ensures, Post-is p.result.start p.result.end c.args.image.now inside.rising, n.ensures.1),
    )

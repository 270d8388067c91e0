use Rattle.std.proofs.Common.{◌≡◌, Bool, true, false, sym, ap, ◌∙◌}
use Rattle.bus.specs.Bus.{event_of, is_slot}
use Rattle.bus.specs.Loops.{slot_byte, bus_state, turns_up_to, copied_up_to}
use Rattle.bus.proofs.Idle.{turns-slot, copied-slot, turns-other, copied-none}
use Rattle.bus.proofs.step_event.Goals as goal

pub turn_all-requires : goal.turn_all-requires
turn_all-requires c = (c.requires, sym c.is_slot.ensures ∙ c.if-is_slot.false)

pub returns-then-is_slot : goal.returns-then-is_slot
returns-then-is_slot c =
    let v = c.args.byte in
    let t = c.args.level in
    let n = c.args.n in
    let s = bus_state c.args.image.now c.args.lines.now in
    let slot : is_slot (event_of v) ≡ true = sym c.is_slot.ensures ∙ c.if-is_slot.true in
    let f = c.is_overdrive-overdrive.ensures in
    let done = c.slot_all.ensures in (
      done.0 ∙ ap (λ (b : Bool). copied_up_to (slot_byte b) t n s) f ∙ copied-slot v t slot n s,
      done.1 ∙ ap (λ (b : Bool). turns_up_to (slot_byte b) t n s) f ∙ turns-slot v t slot n s,
    )

pub returns-else-is_slot : goal.returns-else-is_slot
returns-else-is_slot c =
    let v = c.args.byte in
    let t = c.args.level in
    let n = c.args.n in
    let s = bus_state c.args.image.now c.args.lines.now in
    let other : is_slot (event_of v) ≡ false = sym c.is_slot.ensures ∙ c.if-is_slot.false in
    (sym (copied-none v t other n s), c.turn_all.ensures ∙ turns-other v t other n s)

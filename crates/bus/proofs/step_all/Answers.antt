use Rattle.std.proofs.Common.{◌≡◌, Bool, ℕ, true, false, sym, ap, ◌∙◌}
use Rattle.bus.specs.Bus.{event_of, is_slot}
use Rattle.bus.specs.Loops.{slot_byte, turn_states_of}
use Rattle.bus.proofs.Idle.{states-slot, states-other}
use Rattle.bus.proofs.States.{states-fewer}
use Rattle.bus.proofs.step_all.Goals as goal

pub returns-then-is_slot : goal.returns-then-is_slot
returns-then-is_slot c =
    let v = c.args.byte in
    let t = c.args.level in
    let im = c.args.image.now in
    let ls = c.args.lines.now in
    let slot : is_slot (event_of v) ≡ true = sym c.is_slot.ensures ∙ c.if-is_slot.true in
    let f = c.is_overdrive-overdrive.ensures in
    c.read_slot_all.ensures
    ∙ ap (λ (b : Bool). turn_states_of im ls c.served-served.result (slot_byte b) t) f
    ∙ states-slot v t slot im ls c.served-served.result
    ∙ ap (λ (m : ℕ). turn_states_of im ls m v t) c.served-served.ensures.fewer
    ∙ states-fewer im ls c.args.n v t

pub returns-else-is_slot : goal.returns-else-is_slot
returns-else-is_slot c =
    let v = c.args.byte in
    let t = c.args.level in
    let im = c.args.image.now in
    let ls = c.args.lines.now in
    let other : is_slot (event_of v) ≡ false = sym c.is_slot.ensures ∙ c.if-is_slot.false in
    c.read_turn_all.ensures
    ∙ states-other v t other im ls c.served-served.result
    ∙ ap (λ (m : ℕ). turn_states_of im ls m v t) c.served-served.ensures.fewer
    ∙ states-fewer im ls c.args.n v t

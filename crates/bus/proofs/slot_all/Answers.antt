use Rattle.std.proofs.Common.{◌+◌, ◌<◌, ◌≤◌, length, set, refl, sym, ap, ◌∙◌, arith}
use Rattle.bus.specs.declared.SlotTurn.{SlotTurn}
use Rattle.bus.specs.Loops.{slot_byte, bus_state, turns_up_to, copied_up_to}
use Rattle.bus.proofs.Loops.{pass_few, pass_stops, pass_state_turns, pass_copied_turns, turn_done, turn_added}
use Rattle.bus.proofs.slot_all.Goals as goal

pub loop-i-init : goal.loop-i-init
unfolding turns_up_to copied_up_to
loop-i-init c =
    let f = c.args.overdrive in
    let t = c.args.level in
    let n = c.args.n in
    let ls = c.args.lines.now in
    let e = c.shift_all-i.ensures in
    record {
      in_range = pass_few f t n 0 ls (omega arith) c.shift_all-i.result e.0;
      copied = sym (pass_copied_turns f t n 0 (bus_state c.args.image.now ls) c.args.image.now ls refl c.shift_all-i.result e.0);
      state = pass_state_turns f t n 0 (bus_state c.args.image.now ls) c.args.image.now ls refl c.shift_all-i.result c.shift_all-i.new.lines e.0 e.1;
      stops = pass_stops f t n 0 ls (omega arith) c.shift_all-i.result c.shift_all-i.new.lines e.0 e.1;
    }

pub loop-i-preserved : goal.loop-i-preserved
loop-i-preserved c =
    let f = c.args.overdrive in
    let t = c.args.level in
    let v = slot_byte f in
    let n = c.args.n in
    let i = c.loop-i.i in
    let s = bus_state c.args.image.now c.args.lines.now in
    let im = c.loop-i.image in
    let ls = c.loop-i.lines in
    let inv = c.loop-i.invariant in
    let within : i < length ls = omega arith in
    let few : i + 1 ≤ n = omega arith in
    let after = c.slot-after.ensures in
    let left = c.slot-after.new.image in
    let next = c.slot-after.result.next in
    let turned = turn_done v t i s im ls inv.state _ within left next after.1
    (ap (λ (u : SlotTurn). u.next) after.0) in
    let summed = turn_added v t i s im ls inv.state _ within c.loop-i.copied c.saturating_add-copied.result c.slot-after.result.copied
    inv.copied (ap (λ (u : SlotTurn). u.copied) after.0) c.saturating_add-copied.ensures in
    let j = c.shift_all-i-in-loop-i.result in
    let xs = c.shift_all-i-in-loop-i.new.lines in
    let e = c.shift_all-i-in-loop-i.ensures in
    record {
      in_range = pass_few f t n (i + 1) (set ls i next) few j e.0;
      copied = summed ∙ sym (pass_copied_turns f t n (i + 1) s left (set ls i next) turned j e.0);
      state = pass_state_turns f t n (i + 1) s left (set ls i next) turned j xs e.0 e.1;
      stops = pass_stops f t n (i + 1) (set ls i next) few j xs e.0 e.1;
    }

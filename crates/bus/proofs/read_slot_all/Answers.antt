use Rattle.std.proofs.Common.{◌≡◌, ◌+◌, ◌<◌, ◌≤◌, ℕ, length, set, refl, ap, ◌∙◌, arith}
use Rattle.bus.specs.Loops.{slot_byte}
use Rattle.bus.proofs.States.{steps, steps-upto}
use Rattle.bus.proofs.Loops.{pass_few, pass_stops, pass_steps, step_done}
use Rattle.bus.proofs.read_slot_all.Goals as goal

pub loop-i-init : goal.loop-i-init
unfolding steps
loop-i-init c =
    let f = c.args.overdrive in
    let t = c.args.level in
    let n = c.args.n in
    let ls = c.args.lines.now in
    let e = c.shift_all-i.ensures in
    record {
      in_range = pass_few f t n 0 ls (omega arith) c.shift_all-i.result e.0;
      lines = pass_steps c.args.image.now f t n 0 ls ls refl c.shift_all-i.result c.shift_all-i.new.lines e.0 e.1;
      stops = pass_stops f t n 0 ls (omega arith) c.shift_all-i.result c.shift_all-i.new.lines e.0 e.1;
    }

pub loop-i-preserved : goal.loop-i-preserved
loop-i-preserved c =
    let f = c.args.overdrive in
    let t = c.args.level in
    let n = c.args.n in
    let i = c.loop-i.i in
    let im = c.args.image.now in
    let ls = c.loop-i.lines in
    let inv = c.loop-i.invariant in
    let within : i < length ls = omega arith in
    let few : i + 1 ≤ n = omega arith in
    let next = c.read_slot-after.result in
    let turned = step_done im (slot_byte f) t i c.args.lines.now ls inv.lines _ within next c.read_slot-after.ensures in
    let j = c.shift_all-i-in-loop-i.result in
    let xs = c.shift_all-i-in-loop-i.new.lines in
    let e = c.shift_all-i-in-loop-i.ensures in
    record {
      in_range = pass_few f t n (i + 1) (set ls i next) few j e.0;
      lines = pass_steps im f t n (i + 1) c.args.lines.now (set ls i next) turned j xs e.0 e.1;
      stops = pass_stops f t n (i + 1) (set ls i next) few j xs e.0 e.1;
    }

pub returns : goal.returns
returns c =
    let v = slot_byte c.args.overdrive in
    let all : c.loop-i.i ≡ c.args.n = omega arith in
    c.loop-i.invariant.lines
    ∙ ap (λ (k : ℕ). steps c.args.image.now v c.args.level k c.args.lines.now) all
    ∙ steps-upto c.args.image.now v c.args.level c.args.n c.args.lines.now (omega arith)

use Rattle.std.proofs.Common.{◌≡◌, ◌<◌, ◌≤◌, ℕ, true, length, refl, sym, ap, ◌∙◌, arith}
use Rattle.bus.proofs.States.{steps, steps-upto}
use Rattle.bus.proofs.Loops.{step_heard, step_unheard}
use Rattle.bus.proofs.read_turn_all.Goals as goal
use Rattle.bus.proofs.read_turn_all.Goals.{then-hears, else-hears}

pub loop-i-init : goal.loop-i-init
unfolding steps
loop-i-init c = refl

pub loop-i-preserved : goal.loop-i-preserved
loop-i-preserved c =
    let v = c.args.byte in
    let i = c.loop-i.i in
    let im = c.args.image.now in
    let ys = c.args.lines.now in
    let ls = c.loop-i.lines in
    let inv = c.loop-i.invariant in
    let within : i < length ls = omega arith in
    elim c.if-hears.branch [
      | then-hears w ↦ w.lines-is
          ∙ step_heard v c.requires.1 i im ys ls inv _ within c.from-event.result c.from-event.ensures (sym c.hears.ensures ∙ w.if-hears.true)
          w.read_turn.result w.read_turn.ensures
      | else-hears w ↦ w.lines-is
          ∙ step_unheard v c.requires.1 i im ys ls inv _ within c.from-event.result c.from-event.ensures (sym c.hears.ensures ∙ w.if-hears.false)
    ]

pub returns : goal.returns
returns c =
    let all : c.loop-i.i ≡ c.args.n = omega arith in
    let few : c.args.n ≤ length c.args.lines.now = c.requires.0 in
    c.loop-i.invariant
    ∙ ap (λ (k : ℕ). steps c.args.image.now c.args.byte true k c.args.lines.now) all
    ∙ steps-upto c.args.image.now c.args.byte true c.args.n c.args.lines.now few

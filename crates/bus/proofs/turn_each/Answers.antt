use Rattle.std.proofs.Common.{◌<◌, ℕ, List, length, refl, sym, ap, ◌∙◌, arith}
use Rattle.device.specs.declared.LineState.{LineState}
use Rattle.bus.specs.Loops.{bus_state, turns_up_to}
use Rattle.bus.proofs.Loops.{turn_heard, turn_unheard}
use Rattle.bus.proofs.turn_each.Goals as goal
use Rattle.bus.proofs.turn_each.Goals.{then-hears, else-hears}

pub loop-i-init : goal.loop-i-init
unfolding turns_up_to
loop-i-init g c = refl

pub loop-i-preserved : goal.loop-i-preserved
loop-i-preserved g c =
    let v = g.row.BYTE in
    let i = c.loop-i.i in
    let s = bus_state c.args.image.now c.args.lines.now in
    let im = c.loop-i.image in
    let ls = c.loop-i.lines in
    let inv = c.loop-i.invariant in
    let within : i < length ls = omega arith in
    elim c.if-hears.branch [
      | then-hears w ↦
          ap (λ (ys : List LineState). bus_state c.if-hears.image ys) w.lines-is
          ∙ turn_heard v c.requires.1 i s im ls inv _ within c.from-event.result c.from-event.ensures (sym c.hears.ensures ∙ w.if-hears.true)
          c.if-hears.image w.turn.result (w.image-is ∙ w.turn.ensures.1) w.turn.ensures.0
      | else-hears w ↦
          ap (λ (ys : List LineState). bus_state c.if-hears.image ys) w.lines-is
          ∙ ap (λ (xs : List ℕ). bus_state xs ls) w.image-is
          ∙ turn_unheard v c.requires.1 i s im ls inv _ within c.from-event.result c.from-event.ensures (sym c.hears.ensures ∙ w.if-hears.false)
    ]

use Rattle.std.proofs.Common.{sym, ◌∙◌, arith}
use Rattle.std.proofs.lemmas.Grind.{common_steps}
use Rattle.std.proofs.lemmas.List.{length-take-le}
use Rattle.judge.specs.Loops.{seen_up_to}
use Rattle.judge.proofs.Turns.{look_room, taken_done, taken_rom}
use Rattle.judge.proofs.look.Goals as goal
use Rattle.judge.proofs.look.Goals.{then-is_at_memory, else-is_at_memory}

pub loop-i-init : goal.loop-i-init
unfolding seen_up_to
loop-i-init c = grind (arith, common_steps)

pub seen_with-seen-requires : goal.seen_with-seen-requires
seen_with-seen-requires c =
    look_room _ _ _ _ _ c.loop-i.i _ c.loop-i.invariant
    (omega (arith, c.loop-i-test.true, length-take-le c.args.n c.args.lines.now c.requires, c.ranges.n.fits))

pub loop-i-preserved : goal.loop-i-preserved
loop-i-preserved c =
    let so_far = c.loop-i.invariant in
    elim c.if-is_at_memory.branch [
      | then-is_at_memory w ↦
          w.seen-is
          ∙ taken_done _ _ _ _ _ _ _ so_far c.args.n _ c.loop-i-test.true c.requires w.seen_with-seen.result w.seen_with-seen.ensures
      | else-is_at_memory w ↦
          w.seen-is
          ∙ taken_rom _ _ _ _ _ _ _ so_far c.args.n _ c.loop-i-test.true c.requires (sym c.is_at_memory.ensures ∙ w.if-is_at_memory.false)
    ]

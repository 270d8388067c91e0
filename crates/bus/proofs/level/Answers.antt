use Rattle.std.proofs.Common.{refl, ap, ◌∙◌, add-one, arith}
use Rattle.std.proofs.lemmas.List.{get_or_default}
use Rattle.device.specs.Device.{waiting_state}
use Rattle.bus.specs.Bus.{event_of}
use Rattle.bus.specs.Loops.{leaves_high}
use Rattle.bus.proofs.Levels.{high_after, scan_turn, scan_result}
use Rattle.bus.proofs.level.Goals as goal

pub loop-high-init : goal.loop-high-init
unfolding high_after
loop-high-init c = record { in_range = omega arith; so_far = refl }

pub loop-high-preserved : goal.loop-high-preserved
unfolding high_after
loop-high-preserved c =
    let h = scan_turn _ _ _ _ _ _ _ _ c.served-served.ensures.fewer c.asked-asked.ensures c.loop-high.invariant.in_range
    c.loop-high.invariant.so_far c.looks_on.ensures c.loop-high-test.true in
    record {
      in_range = omega (arith, h.0);
      so_far = rw add-one (c.leaves_high-high.ensures
          ∙ ap (leaves_high (event_of c.args.byte)) (get_or_default c.args.lines.now c.loop-high.looked _ waiting_state h.1.1));
    }

pub returns : goal.returns
returns c =
    c.scan_of.ensures
    ∙ scan_result _ _ _ _ _ _ _ _ c.served-served.ensures.fewer c.asked-asked.ensures c.loop-high.invariant.in_range
    c.loop-high.invariant.so_far c.looks_on.ensures c.loop-high-test.false

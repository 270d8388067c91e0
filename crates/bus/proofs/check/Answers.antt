use Rattle.std.proofs.Common.{arith}
use Rattle.std.proofs.lemmas.Grind.{common_steps}
use Rattle.image.specs.Refusal.{told_number, refusal_number, image_refusal, image_causes, first_cause}
use Rattle.bus.specs.Refusal.{run_refusal, run_causes}
use Rattle.bus.proofs.check.Goals as goal

pub returns-in_err-check : goal.returns-in_err-check
unfolding told_number refusal_number image_refusal image_causes first_cause run_refusal run_causes
returns-in_err-check c = grind (arith, common_steps)

pub returns-then-is_bad_trace : goal.returns-then-is_bad_trace
unfolding told_number refusal_number image_refusal image_causes first_cause run_refusal run_causes
returns-then-is_bad_trace c = grind (arith, common_steps)

pub returns-then-lacks_first_reset : goal.returns-then-lacks_first_reset
unfolding told_number refusal_number image_refusal image_causes first_cause run_refusal run_causes
returns-then-lacks_first_reset c = grind (arith, common_steps)

pub returns-then-is_bad_pulse : goal.returns-then-is_bad_pulse
unfolding told_number refusal_number image_refusal image_causes first_cause run_refusal run_causes
returns-then-is_bad_pulse c = grind (arith, common_steps)

pub returns-then-lacks_room : goal.returns-then-lacks_room
unfolding told_number refusal_number image_refusal image_causes first_cause run_refusal run_causes
returns-then-lacks_room c = grind (arith, common_steps)

pub returns : goal.returns
unfolding told_number refusal_number image_refusal image_causes first_cause run_refusal run_causes
returns c = grind (arith, common_steps)

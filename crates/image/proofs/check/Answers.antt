use Rattle.std.proofs.Common.{rules}
use Rattle.image.specs.Refusal.{told_number, refusal_number, image_refusal, image_causes, first_cause}
use Rattle.image.proofs.check.Goals as goal

pub returns-then-is_malformed : goal.returns-then-is_malformed
unfolding told_number refusal_number image_refusal image_causes first_cause
returns-then-is_malformed c = search rules

pub returns-then-is_too_long : goal.returns-then-is_too_long
unfolding told_number refusal_number image_refusal image_causes first_cause
returns-then-is_too_long c = search rules

pub returns-then-is_miscoded : goal.returns-then-is_miscoded
unfolding told_number refusal_number image_refusal image_causes first_cause
returns-then-is_miscoded c = search rules

pub returns-then-is_doubled : goal.returns-then-is_doubled
unfolding told_number refusal_number image_refusal image_causes first_cause
returns-then-is_doubled c = search rules

pub returns : goal.returns
unfolding told_number refusal_number image_refusal image_causes first_cause
returns c = search rules

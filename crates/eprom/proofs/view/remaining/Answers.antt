use Rattle.std.proofs.Common.{arith, sym, ◌∙◌}
use Rattle.std.proofs.lemmas.Grind.{common_steps}
use Rattle.eprom.specs.View.{names_data, names_status, bytes_to_read, place_to_read}
use Rattle.eprom.proofs.Laws.{cut-within}
use Rattle.eprom.proofs.view.remaining.Goals as goal

pub slice_bounds-result-count-in-240 : goal.slice_bounds-result-count-in-240
slice_bounds-result-count-in-240 c =
    let fit = sym c.fields_fit.ensures ∙ c.if-not-fields_fit.false in
    omega (arith, cut-within _ _ fit c.args.address)

pub slice_bounds-result-start-in-240 : goal.slice_bounds-result-start-in-240
slice_bounds-result-start-in-240 c =
    let fit = sym c.fields_fit.ensures ∙ c.if-not-fields_fit.false in
    omega (arith, cut-within _ _ fit c.args.address)

pub slice_bounds-result-count-in-170 : goal.slice_bounds-result-count-in-170
slice_bounds-result-count-in-170 c =
    let fit = sym c.fields_fit.ensures ∙ c.if-not-fields_fit.false in
    omega (arith, cut-within _ _ fit c.args.address)

pub slice_bounds-result-start-in-170 : goal.slice_bounds-result-start-in-170
slice_bounds-result-start-in-170 c =
    let fit = sym c.fields_fit.ensures ∙ c.if-not-fields_fit.false in
    omega (arith, cut-within _ _ fit c.args.address)

pub returns-then-not-fields_fit : goal.returns-then-not-fields_fit
unfolding bytes_to_read place_to_read names_data names_status
returns-then-not-fields_fit c = grind (arith, common_steps)

pub returns-in-240 : goal.returns-in-240
unfolding bytes_to_read place_to_read names_data names_status
returns-in-240 c = grind (arith, common_steps)

pub returns-in-170 : goal.returns-in-170
unfolding bytes_to_read place_to_read names_data names_status
returns-in-170 c = grind (arith, common_steps)

pub returns-in_default : goal.returns-in_default
unfolding bytes_to_read place_to_read names_data names_status
returns-in_default c = grind (arith, common_steps)

use Rattle.std.proofs.Common.{rules, ℕ}
use Rattle.std.proofs.Math.Path.{◌∙◌, ap}
use Rattle.image.specs.Refusal.{some_below, code_refused, some_code_refused}
use Rattle.image.proofs.Below.{any_below}
use Rattle.image.proofs.is_miscoded.Goals as goal

pub returns : goal.returns
unfolding some_code_refused
returns c =
    let p = λ (i : ℕ). code_refused c.args.image.now i in
    any_below p _ _ _ _ c.any.ensures.ran (λ x b q k. search rules) ∙ ap (λ n. some_below n p) c.count.ensures

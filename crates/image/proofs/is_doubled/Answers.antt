use Rattle.std.proofs.Common.{rules, ℕ}
use Rattle.std.proofs.Math.Path.{◌∙◌, ap}
use Rattle.image.specs.Refusal.{some_below, code_repeated, some_code_repeated}
use Rattle.image.proofs.Below.{any_below}
use Rattle.image.proofs.is_doubled.Goals as goal

pub returns : goal.returns
unfolding some_code_repeated
returns c =
    let p = λ (j : ℕ). code_repeated c.args.image.now j in
    any_below p _ _ _ _ c.any.ensures.ran (λ x b q k. search rules) ∙ ap (λ n. some_below n p) c.count.ensures

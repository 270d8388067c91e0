use Rattle.std.proofs.Common.{rules, ℕ}
use Rattle.std.proofs.Math.Path.{◌∙◌, ap}
use Rattle.image.specs.Refusal.{some_below, entry_malformed}
use Rattle.image.proofs.Below.{any_below}
use Rattle.image.proofs.has_malformed_entry.Goals as goal

pub returns : goal.returns
returns c =
    let p = λ (i : ℕ). entry_malformed c.args.image.now i in
    any_below p _ _ _ _ c.any.ensures.ran (λ x b q k. search rules) ∙ ap (λ n. some_below n p) c.count.ensures

use Rattle.std.proofs.Common.{ℕ, ap, ◌∙◌, not, rules, tests}
use Rattle.image.specs.Image.{kind_at, entry_of}
use Rattle.image.specs.Refusal.{some_below}
use Rattle.image.proofs.Below.{any_below}
use Rattle.kind.specs.Kind.{is_eprom}
use Rattle.bus.proofs.has_other_kind.Goals as goal

pub returns : goal.returns
unfolding entry_of
returns c =
    let p = λ (i : ℕ). not (is_eprom (kind_at c.args.image.now i)) in
    any_below p _ _ _ _ c.any.ensures.ran (λ x b q k. search (rules, tests)) ∙ ap (λ n. some_below n p) c.count.ensures

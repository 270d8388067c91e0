use Rattle.std.proofs.Common.{rules}
use Rattle.image.specs.Image.{code_at}
use Rattle.image.specs.Refusal.{equal_bytes, code_repeated}
use Rattle.image.proofs.Below.{any_below}
use Rattle.image.proofs.is_repeated.Goals as goal

pub returns : goal.returns
unfolding code_repeated
returns c =
    any_below (λ i. equal_bytes 8 (code_at c.args.image.now i) (code_at c.args.image.now c.args.j)) _ _ _ _
    c.any.ensures.ran (λ x b q k. search rules)

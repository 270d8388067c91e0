use Rattle.std.proofs.Common.{rules, ℕ, ◌+◌}
use Rattle.std.proofs.Math.Path.{◌∙◌, sym, ap, ap₂}
use Rattle.std.proofs.Math.Dec.{eqb}
use Rattle.std.specs.Prelude.{not, get_or}
use Rattle.image.specs.Image.{offset_at}
use Rattle.image.specs.Refusal.{equal_bytes}
use Rattle.image.proofs.Below.{all_below, same_below}
use Rattle.image.proofs.Laws.{code_byte}
use Rattle.image.proofs.same_code.Goals as goal

pub returns : goal.returns
unfolding equal_bytes
returns c =
    let image = c.args.image.now in
    let start = λ (i : ℕ). offset_at image i in
    let byte = λ (i k : ℕ). get_or image (start i + k) 0 in
    all_below (λ (k : ℕ). eqb (byte c.args.i k) (byte c.args.j k)) _ _ _ _ c.all.ensures.ran (λ x b q k. search rules)
    ∙ ap not (same_below _ _ 8 (λ k h. ap not (ap₂ eqb (sym (code_byte image (start c.args.i) k h)) (sym (code_byte image (start c.args.j) k h)))))

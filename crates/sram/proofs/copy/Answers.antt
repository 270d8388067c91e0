use Rattle.std.proofs.Common.{ℕ, ◌+◌, List, get_or, set, ap, ◌∙◌, arith}
use Rattle.kind.specs.Kind.{scratchpad, memory}
use Rattle.sram.proofs.Laws.{copy-one-more, copy-in-scratchpad}
use Rattle.sram.proofs.copy.Goals as goal

pub loop-k-preserved : goal.loop-k-preserved
loop-k-preserved c =
    let a = c.args in
    let body = a.body.now in
    let from = scratchpad + c.from-from.result in
    let to = memory + c.from-to.result in
    let l = c.loop-k in
    c.put_byte.ensures
    ∙ ap (λ (v : ℕ). set l.body (to + l.k) v) c.byte_at-byte.ensures
    ∙ ap (λ (b : List ℕ). set b (to + l.k) (get_or b (from + l.k) 0)) l.invariant
    ∙ copy-one-more body from to l.k (omega (arith, copy-in-scratchpad a.size body))

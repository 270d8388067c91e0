use Rattle.std.proofs.Common.{◌≡◌, ◌<◌, ◌≤◌, ◌∙◌, length, sym, arith}
use borrow.Author.Rules.{rules}
use Rattle.master.proofs.Stores.{store-next, store-none}
use Rattle.master.proofs.driving.put_code.Goals as goal

pub loop-i-preserved : goal.loop-i-preserved
loop-i-preserved c =
    let size : length c.args.code ≡ 8 = search rules in
    let low : c.loop-i.i < length c.args.code = omega arith in
    rw c.put_byte.ensures (store-next _ _ _ _ low ∙ c.loop-i.invariant)

pub returns : goal.returns
returns c =
    let size : length c.args.code ≡ 8 = search rules in
    let all : length c.args.code ≤ c.loop-i.i = omega arith in
    sym (store-none _ _ _ _ all) ∙ c.loop-i.invariant ∙ rw c.from-at.ensures

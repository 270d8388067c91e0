use Rattle.std.proofs.Common.{refl}
use Rattle.search.specs.Found.{search_told}
use Rattle.search.proofs.Counts.{some_number}
use Rattle.search_call.proofs.Laws.{sees-counts, sees-none}
use Rattle.search_call.proofs.troughiron_search.Goals as goal

pub returns-in-Ok : goal.returns-in-Ok
unfolding search_told
returns-in-Ok c =
    let a = c.args in
    let o = c.in-Ok.ensures in
    (sees-counts _ a.passes.now a.resets.now a.slots.now _ _ _ o.0 refl, λ e. o.1)

pub returns-in-Err : goal.returns-in-Err
unfolding search_told
returns-in-Err c =
    let a = c.args in
    let o = c.in-Err.ensures in
    rw c.from.ensures
    (sees-none _ a.passes.now a.resets.now a.slots.now _ _ _ o.0 (some_number c.in-Err.refusal), λ e. absurd (some_number c.in-Err.refusal e))

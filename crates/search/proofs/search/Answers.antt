use Rattle.std.proofs.Common.{◌≡◌, ◌∙◌, ◌++◌, ℕ, List, length, take, drop, sym, ap, subst}
use Rattle.std.proofs.lemmas.Result.{err_from_is_err_and}
use Rattle.device.specs.declared.LineState.{LineState}
use Rattle.device.specs.Device.{waiting_state}
use Rattle.image.specs.Image.{count_of}
use Rattle.image.specs.Refusal.{told_number}
use Rattle.bus.specs.Run.{states_of}
use Rattle.bus.specs.Loops.{filled_up_to, fewer_of}
use Rattle.search_laws.specs.Search.{search_of}
use Rattle.search.specs.Found.{found_in, search_outcome}
use Rattle.search.specs.Loops.{Ready}
use Rattle.search.proofs.Shown.{begun, ready, claim, shown, refused, leaves}
use Rattle.search.proofs.search.Goals as goal

pub returns-in_err-check : goal.returns-in_err-check
unfolding told_number
returns-in_err-check c =
    let p = err_from_is_err_and c.from_residual.result c.from_residual.ensures.1 in
    let a = c.args in
    rw (p.1, p.2) (leaves _ _ _ _ _ (refused a.image.now a.codes.now a.trace.now a.lines.now _ c.in_err-check.ensures.0), tt)

pub exchange-sent-requires : goal.exchange-sent-requires
unfolding told_number
exchange-sent-requires c =
    let a = c.args in
    let checked = c.in_ok-check.ensures in
    let started : c.wait_all.new.lines ≡ begun a.image.now a.codes.now a.trace.now a.lines.now =
    c.wait_all.ensures ∙ ap (λ (m : ℕ). filled_up_to (fewer_of m (length a.lines.now)) waiting_state a.lines.now) c.device_count-n.ensures in
    subst (λ (ls : List LineState). Ready a.image.now a.codes.now a.trace.now ls) (sym started)
    (ready a.image.now a.codes.now a.trace.now a.lines.now checked.1 (sym checked.0))

pub returns : goal.returns
unfolding told_number
returns c =
    let a = c.args in
    let checked = c.in_ok-check.ensures in
    let done = c.exchange-sent.ensures in
    let started : c.wait_all.new.lines ≡ begun a.image.now a.codes.now a.trace.now a.lines.now =
    c.wait_all.ensures ∙ ap (λ (m : ℕ). filled_up_to (fewer_of m (length a.lines.now)) waiting_state a.lines.now) c.device_count-n.ensures in
    let ended = done.3 ∙ ap (λ (ls : List LineState). states_of (search_of a.image.now).devices ++ drop (count_of a.image.now) ls) started in
    let told = c.tally.ensures ∙ (λ j. found_in 0 (take (done.0 j) (done.2 j))) in (
      leaves _ _ _ _ _
          ((λ j. search_outcome (told j) (done.1 j) (done.2 j) (ended j)) ∙ shown a.image.now a.codes.now a.trace.now a.lines.now (sym checked.0)),
      claim a.image.now a.codes.now a.trace.now a.lines.now checked.1 (sym checked.0),
    )

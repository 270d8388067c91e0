use Rattle.std.proofs.Common.{◌≡◌, ℕ, length, sym, ◌∙◌, ap, arith}
use Rattle.std.proofs.lemmas.Result.{err_from_is_err_and}
use Rattle.device.specs.Device.{waiting_state}
use Rattle.image.specs.Image.{count_of}
use Rattle.image.specs.Refusal.{told_number}
use Rattle.bus.specs.Refusal.{run_refusal}
use Rattle.bus.specs.Loops.{filled_up_to, fewer_of, run_state, run_events_up_to, copied_by_events}
use Rattle.bus.specs.Run.{run_outcome, run_of, run_result, run_told}
use Rattle.bus.proofs.Laws.{admitted, fewer-first}
use Rattle.bus.proofs.Shown.{ends, copied-in-all, run-shown, run-refused, run-leaves}
use Rattle.bus.proofs.run.Goals as goal

pub returns-in_err-check : goal.returns-in_err-check
unfolding told_number
returns-in_err-check c =
    let im = c.args.image.now in
    let trace = c.args.trace.now in
    let answers = c.args.answers.now in
    let ls = c.args.lines.now in
    let p = err_from_is_err_and c.from_residual.result c.from_residual.ensures.1 in
    rw (p.1, p.2) (run-leaves (run_of im trace answers ls) _ _ _ _ (run-refused _ trace im answers ls c.in_err-check.ensures))

pub run_events-requires : goal.run_events-requires
unfolding told_number
run_events-requires c =
    let has = admitted _ _ _ _ (sym c.in_ok-check.ensures) in
    (has.answers-room, omega (arith, has.lines-room, c.device_count-n.ensures))

pub returns : goal.returns
unfolding told_number run_told
returns c =
    let im = c.args.image.now in
    let trace = c.args.trace.now in
    let answers = c.args.answers.now in
    let ls = c.args.lines.now in
    let none : run_refusal im trace (length answers) (length ls) ≡ 0 = sym c.in_ok-check.ensures in
    let has = admitted _ _ _ _ none in
    let count : c.device_count-n.result ≡ count_of im = c.device_count-n.ensures in
    let filled : c.wait_all.new.lines ≡ filled_up_to (count_of im) waiting_state ls =
    c.wait_all.ensures
    ∙ ap (λ (n : ℕ). filled_up_to (fewer_of n (length ls)) waiting_state ls) count
    ∙ ap (λ (n : ℕ). filled_up_to n waiting_state ls) (fewer-first (count_of im) (length ls) has.lines-room) in
    let sum : c.run_events.result ≡ copied-in-all trace im answers ls =
    c.run_events.ensures.0
    ∙ (λ i. copied_by_events trace (count i) (length trace) (run_state im answers (filled i))) in
    let done : run_state c.run_events.new.image c.run_events.new.answers c.run_events.new.lines ≡ ends trace im answers ls =
    c.run_events.ensures.1
    ∙ (λ i. run_events_up_to trace (count i) (length trace) (run_state im answers (filled i))) in
    run-leaves (run_of im trace answers ls) _ _ _ _
    ((λ i. run_outcome (run_result 0 (sum i)) (done i).image (done i).answers (done i).lines)
    ∙ run-shown trace im answers ls none)

use Rattle.std.proofs.Common.{◌≡◌, ◌+◌, ◌≤◌, ℕ, ◌++◌, length, drop, sym, ap, ◌∙◌, arith}
use Rattle.std.proofs.lemmas.List.Edits.{sets-eq}
use Rattle.std.proofs.lemmas.Result.{err_from_is_err_and}
use Rattle.image.specs.Image.{count_of}
use Rattle.image.specs.Refusal.{told_number}
use Rattle.device.specs.Device.{waiting_state}
use Rattle.bus.specs.Loops.{filled_up_to, fewer_of}
use Rattle.judge.specs.declared.Verdict.TheVariants.{Accepted}
use Rattle.judge.specs.Judge.{so_far, told, judge_outcome, judge_of}
use Rattle.judge.specs.Refusal.{judge_refusal}
use Rattle.judge.specs.Loops.{judge_state, judge_events_up_to}
use Rattle.judge.proofs.Shown.{judged, admits, judge-shown, judge-refused, judge-leaves}
use Rattle.judge.proofs.judge.Goals as goal

pub returns-in_err-check : goal.returns-in_err-check
unfolding told_number told
returns-in_err-check c =
    let im = c.args.image.now in
    let trace = c.args.trace.now in
    let answers = c.args.answers.now in
    let work = c.args.work.now in
    let ls = c.args.lines.now in
    let p = err_from_is_err_and c.from_residual.result c.from_residual.ensures.1 in
    rw (p.1, p.2)
    (judge-leaves (judge_of im trace answers work ls) _ _ _ (judge-refused _ im trace answers work ls c.in_err-check.ensures))

pub returns : goal.returns
unfolding told_number told
returns c =
    let im = c.args.image.now in
    let trace = c.args.trace.now in
    let answers = c.args.answers.now in
    let work = c.args.work.now in
    let ls = c.args.lines.now in
    let none : judge_refusal im trace (length answers) (length work) (length ls) ≡ 0 = sym c.in_ok-check.ensures in
    let room : length im ≤ length work = (admits _ _ _ _ _ none).work-room in
    let size : 0 + length im ≡ length im = omega arith in
    let laid : c.lay.new.work ≡ im ++ drop (length im) work =
    c.lay.ensures ∙ sets-eq im work 0 (omega (arith, room)) ∙ ap (λ (m : ℕ). im ++ drop m work) size in
    let count : c.device_count-n.result ≡ count_of im = c.device_count-n.ensures in
    let filled : c.wait_all.new.lines ≡ filled_up_to (fewer_of (count_of im) (length ls)) waiting_state ls =
    c.wait_all.ensures ∙ ap (λ (m : ℕ). filled_up_to (fewer_of m (length ls)) waiting_state ls) count in
    let done : judge_state (so_far c.judge_events.result) c.judge_events.new.work c.judge_events.new.lines
    ≡ judged im trace answers work ls =
    c.judge_events.ensures
    ∙ (λ i. judge_events_up_to trace answers (count i) (length trace)
    (judge_state Accepted (laid i) (filled i))) in
    judge-leaves (judge_of im trace answers work ls) _ _ _
    ((λ i. judge_outcome (done i).verdict (done i).work (done i).lines) ∙ judge-shown im trace answers work ls none)

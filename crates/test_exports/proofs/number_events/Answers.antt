use Rattle.std.proofs.Common.{◌≡◌, ◌≤◌, ◌+◌, ◌∙◌, ℕ, List, length, get_or, refl, ap, arith, add-one}
use Rattle.std.proofs.Math.ListN.{set}
use Rattle.device.specs.declared.LineState.{LineState}
use Rattle.bus.specs.declared.EventResult.{EventResult}
use Rattle.bus.specs.Loops.{bus_state, RunState, run_state, run_events_up_to, step_on, copied_on, scan_on, looked_on, event_result}
use Rattle.bus.proofs.Loops.{event_done}
use Rattle.test_exports.specs.Loops.{numbers, number_of as number_for_event}
use Rattle.test_exports.proofs.number_events.Goals as goal

-- One event more of the trace: `step` leaves image and line states as in a run, whatever the answers are.
module _ (trace : List ℕ) (n k : ℕ) (entry : RunState) (image : List ℕ) (lines : List LineState)
    (ran : image ≡ (run_events_up_to trace n k entry).image) (lined : lines ≡ (run_events_up_to trace n k entry).lines)
    (result : EventResult)
    (is : result ≡ event_result (scan_on lines n (get_or trace k 0)) (copied_on n (get_or trace k 0) (bus_state image lines))) where
  stepped : n ≤ length lines → (left : List ℕ) (after : List LineState)
      → left ≡ (step_on n (get_or trace k 0) (bus_state image lines)).image
      → after ≡ (step_on n (get_or trace k 0) (bus_state image lines)).lines
      → (left ≡ (run_events_up_to trace n (k + 1) entry).image) × (after ≡ (run_events_up_to trace n (k + 1) entry).lines)
  stepped few left after e g =
      let answers = (run_events_up_to trace n k entry).answers in
      let done = event_done trace n k entry image answers lines (λ j. run_state (ran j) answers (lined j)) few result is left after e g in
      (ap (λ (s : RunState). s.image) done, ap (λ (s : RunState). s.lines) done)

  numbered : (looked : List ℕ) → looked ≡ numbers trace n k entry
      → (number : ℕ) → number ≡ number_for_event (get_or trace k 0) result.looked → set looked k number ≡ numbers trace n (k + 1) entry
  unfolding numbers scan_on
  numbered looked so number e =
      let byte = get_or trace k 0 in
      rw add-one
      ((λ j. set (so j) k (e j))
      ∙ ap (λ (r : EventResult). set (numbers trace n k entry) k (number_for_event byte r.looked)) is
      ∙ ap (λ (ls : List LineState). set (numbers trace n k entry) k (number_for_event byte (looked_on ls n byte))) lined)

pub loop-k-init : goal.loop-k-init
unfolding run_events_up_to numbers
loop-k-init c = record { ran = refl; lined = refl; numbered = refl }

pub loop-k-preserved : goal.loop-k-preserved
loop-k-preserved c =
    let a = c.args in
    let l = c.loop-k in
    let v = l.invariant in
    let entry = run_state a.image.now a.looked.now a.lines.now in
    let few : a.n ≤ length l.lines = omega arith in
    let done = c.step-result in
    let left = stepped a.trace.now a.n l.k entry l.image l.lines v.ran v.lined done.result done.ensures.0 few done.new.image done.new.lines done.ensures.1 done.ensures.2 in
    record {
      ran = left.0;
      lined = left.1;
      numbered = numbered a.trace.now a.n l.k entry l.image l.lines v.ran v.lined done.result done.ensures.0 l.looked v.numbered c.number_of.result c.number_of.ensures;
    }

pub returns : goal.returns
returns c =
    let a = c.args in
    let l = c.loop-k in
    let v = l.invariant in
    let entry = run_state a.image.now a.looked.now a.lines.now in
    let end : l.k ≡ length a.trace.now = omega arith in
    (λ j. run_state (v.ran j) (v.numbered j) (v.lined j))
    ∙ ap (λ (k : ℕ). run_state (run_events_up_to a.trace.now a.n k entry).image (numbers a.trace.now a.n k entry) (run_events_up_to a.trace.now a.n k entry).lines) end

use Rattle.std.proofs.Common.{◌≡◌, ◌≤◌, ◌+◌, ℕ, List, length, get_or, sym, ap, ◌∙◌, arith}
use denote.Ref.{Bor}
use Rattle.recording.specs.Recorded.{agrees_at, next_at}
use Rattle.judge.specs.declared.Verdict.TheVariants.{Accepted}
use Rattle.judge.specs.Judge.{so_far}
use Rattle.judge.specs.Loops.{seen_up_to, judge_state, judge_events_up_to}
use Rattle.judge.proofs.Laws.{still-few}
use Rattle.judge.proofs.Turns.{place_next, event_judged}
use Rattle.judge.proofs.judge_events.Goals as goal

pub loop-recording-init : goal.loop-recording-init
unfolding judge_events_up_to so_far
loop-recording-init c =
    let made = c.new-recording.ensures in
    let start = judge_state Accepted c.args.work.now c.args.lines.now in
    record {
      in_range = omega (arith, made.2);
      trace = ap (λ (b : Bor (List ℕ)). b.now) made.0;
      answers = ap (λ (b : Bor (List ℕ)). b.now) made.1;
      state = sym (ap (λ (k : ℕ). judge_events_up_to c.args.trace.now c.args.answers.now c.args.n k start) made.2);
    }

pub look-seen-requires : goal.look-seen-requires
look-seen-requires c =
    omega (arith, c.requires, c.loop-recording.auto.lines, c.still_looked_at-looked.ensures, still-few (so_far c.loop-recording.verdict) c.args.n)

pub loop-recording-smaller : goal.loop-recording-smaller
loop-recording-smaller c =
    let l = c.loop-recording in
    let trace = c.args.trace.now in
    let at : c.next-recording.result.at ≡ l.recording.at + 1 =
    c.next-recording.ensures.2 ∙ ap (λ (xs : List ℕ). next_at (length xs) l.recording.at) l.invariant.trace
    ∙ place_next (length trace) l.recording.at c.loop-recording-test.true in
    omega (arith, at, c.loop-recording-test.true)

pub loop-recording-preserved : goal.loop-recording-preserved
loop-recording-preserved c =
    let l = c.loop-recording in
    let trace = c.args.trace.now in
    let answers = c.args.answers.now in
    let n = c.args.n in
    let start = judge_state Accepted c.args.work.now c.args.lines.now in
    let at : c.next-recording.result.at ≡ l.recording.at + 1 =
    c.next-recording.ensures.2 ∙ ap (λ (xs : List ℕ). next_at (length xs) l.recording.at) l.invariant.trace
    ∙ place_next (length trace) l.recording.at c.loop-recording-test.true in
    let few : n ≤ length l.lines = omega (arith, c.requires, l.auto.lines) in
    let e = c.step-result.ensures in
    let agrees : c.agrees-agrees.result ≡ agrees_at trace answers l.recording.at c.step-result.result.level =
    c.agrees-agrees.ensures
    ∙ (λ i. agrees_at (l.invariant.trace i) (l.invariant.answers i) l.recording.at c.step-result.result.level) in
    record {
      in_range = omega (arith, at, c.loop-recording-test.true);
      trace = ap (λ (b : Bor (List ℕ)). b.now) c.next-recording.ensures.0 ∙ l.invariant.trace;
      answers = ap (λ (b : Bor (List ℕ)). b.now) c.next-recording.ensures.1 ∙ l.invariant.answers;
      state = event_judged trace answers n l.recording.at start (so_far l.verdict) l.work l.lines l.invariant.state few
          c.event-byte.result (c.event-byte.ensures ∙ ap (λ (xs : List ℕ). get_or xs l.recording.at 0) l.invariant.trace) c.still_looked_at-looked.result c.still_looked_at-looked.ensures
          c.look-seen.result
          (c.look-seen.ensures ∙ (λ i. seen_up_to (l.invariant.trace i) (l.invariant.answers i) l.work l.lines l.recording.at c.still_looked_at-looked.result)) c.step-result.result e.0 c.agrees-agrees.result agrees
          (so_far c.verdict_next-verdict.result) c.verdict_next-verdict.ensures c.step-result.new.image e.1 c.step-result.new.lines e.2
          ∙ ap (λ (k : ℕ). judge_events_up_to trace answers n k start) (sym at);
    }

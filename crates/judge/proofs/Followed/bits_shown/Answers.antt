use Rattle.std.proofs.Common.{◌≡◌, ℕ, ◌+◌, ◌-◌, ◌<◌, ◌≤◌, Bool, true, false, inl, inr, get_or, eqb, sym, ap, ◌∙◌, arith}
use Rattle.std.proofs.lemmas.Bool.{cases_lt}
use borrow.Author.Tests.{eq-eqb, ne_eqb}
use Rattle.judge.specs.Loops.{shown_from, bits_in}
use Rattle.judge.proofs.Laws.{shown-step, shown-broken, shown-all, shown-short}
use Rattle.judge.proofs.Followed.bits_shown.Goals as goal

-- at the end of the part all bits were shown if none is due
ends : (at count : ℕ) (x : Bool) → at ≤ count → (count - at ≡ 0 → x ≡ true) → (0 < count - at → x ≡ false) → eqb at count ≡ x
ends at count x h none short = elim (cases_lt at count) [ inl g ↦ ne_eqb at count (λ e. absurd (omega (arith, e, g))) ∙ sym (short (omega (arith, g))) | inr g ↦ eq-eqb at count (omega (arith, h, g)) ∙ sym (none (omega (arith, g))) ]

pub returns-then-at-count : goal.returns-then-at-count
returns-then-at-count c =
    let f = c.args.self in
    let l = c.loop-event in
    sym (shown-all f.recording.trace.now f.recording.answers.now f.body.now c.args.overdrive c.args.end l.event l.at (c.args.count - l.at) (c.args.end - l.event) (omega (arith, c.if-at-count.true)))
    ∙ l.invariant.so_far

pub returns-then-not-reads_on : goal.returns-then-not-reads_on
returns-then-not-reads_on c =
    let f = c.args.self in
    let l = c.loop-event in
    let due : 0 < c.args.count - l.at = omega (arith, l.invariant.in_range, c.if-at-count.false) in
    sym (shown-broken f.recording.trace.now f.recording.answers.now f.body.now c.args.overdrive c.args.end l.event l.at (c.args.count - l.at) c.loop-event-test.true due (sym c.reads_on.ensures ∙ c.if-not-reads_on.true))
    ∙ l.invariant.so_far

pub loop-event-preserved : goal.loop-event-preserved
loop-event-preserved c =
    let f = c.args.self in
    let l = c.loop-event in
    let count = c.args.count in
    let due : 0 < count - l.at = omega (arith, l.invariant.in_range, c.if-at-count.false) in
    let n : c.bits_in-at.result ≡ bits_in (get_or f.recording.trace.now l.event 0) c.args.overdrive =
    c.bits_in-at.ensures.0 ∙ ap (λ (b : ℕ). bits_in b c.args.overdrive) c.event.ensures in
    let rest : count - (l.at + c.bits_in-at.result) ≡ count - l.at - c.bits_in-at.result = omega arith in
    record {
      in_range = omega (arith, l.invariant.in_range, c.if-at-count.false, c.bits_in-at.ensures.1);
      so_far = ap (λ (due : ℕ). shown_from f.recording.trace.now f.recording.answers.now f.body.now c.args.overdrive (l.at + c.bits_in-at.result) due (l.event + 1) (c.args.end - (l.event + 1))) rest
          ∙ (λ i. shown_from f.recording.trace.now f.recording.answers.now f.body.now c.args.overdrive (l.at + n i) (count - l.at - n i) (l.event + 1) (c.args.end - (l.event + 1)))
          ∙ sym (shown-step f.recording.trace.now f.recording.answers.now f.body.now c.args.overdrive c.args.end l.event l.at (count - l.at) c.loop-event-test.true due (sym c.reads_on.ensures ∙ c.if-not-reads_on.false))
          ∙ l.invariant.so_far;
    }

pub returns : goal.returns
returns c =
    let f = c.args.self in
    let l = c.loop-event in
    let none = shown-all f.recording.trace.now f.recording.answers.now f.body.now c.args.overdrive c.args.end l.event l.at (c.args.count - l.at) (c.args.end - l.event) in
    let short = shown-short f.recording.trace.now f.recording.answers.now f.body.now c.args.overdrive c.args.end l.event l.at (c.args.count - l.at) in
    ends _ _ _ l.invariant.in_range none (short (omega (arith, c.loop-event-test.false))) ∙ l.invariant.so_far

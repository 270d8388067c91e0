-- What the host sees of a judgement, from what is had of it. Assumes nothing.
use Prim.Native.Nat.{ℕ}
use mathlib.Core.Path.{◌≡◌, sym, ap, ◌∙◌}
use mathlib.Core.List.{List}
use Rattle.image.proofs.Counted.{counted-now, counted-not}
use Rattle.std.proofs.Common.{Option, None, Some, Result, Ok, Err, refl, arith}
use Rattle.std.specs.Result.{is_ok}
use mathlib.Core.Bool.{true, false, true≢false}
use Rattle.image.specs.declared.Refusal.{Refusal}
use Rattle.image.specs.declared.Refusal.TheVariants.{MalformedImage, MisplacedBody, WrongCode, EqualCodes, BadTrace, NoFirstReset, BadPulse, NoRoom}
use Rattle.image.specs.Refusal.{refusal_number}
use Rattle.judge.specs.declared.Broken.{Broken}
use Rattle.judge.specs.Judge.{so_far, told, refusal_of, rule_of, broken_at, JudgeOutcome}
use Rattle.judge_call.specs.Host.{OwnJudgeLeaves, HostJudgeLeaves}

-- a verdict that is no refusal has the number 0
judged_number : (broken : Option Broken) → refusal_of (so_far broken) ≡ 0
unfolding so_far refusal_of
judged_number None = refl
judged_number (Some b) = refl

-- what is refused has another number
refused_number : (refusal : Refusal) → refusal_number refusal ≡ 0 → ⊥
unfolding refusal_number
refused_number MalformedImage e = absurd (omega (arith, e))
refused_number MisplacedBody e = absurd (omega (arith, e))
refused_number WrongCode e = absurd (omega (arith, e))
refused_number EqualCodes e = absurd (omega (arith, e))
refused_number BadTrace e = absurd (omega (arith, e))
refused_number NoFirstReset e = absurd (omega (arith, e))
refused_number BadPulse e = absurd (omega (arith, e))
refused_number NoRoom e = absurd (omega (arith, e))

module _ (left : JudgeOutcome) (rule event : ℕ) (verdict : Result (Option Broken) Refusal) (work : List ℕ)
    (judges : OwnJudgeLeaves left (told verdict) work) (number : ℕ) (number_is : number ≡ refusal_of (told verdict)) where
  as-left : number ≡ refusal_of left.verdict
  as-left = number_is ∙ ap refusal_of judges.verdict-is

  is-judged : (v : Result (Option Broken) Refusal) → is_ok v ≡ true → refusal_of (told v) ≡ 0
  unfolding told
  is-judged (Ok broken) e = judged_number broken
  is-judged (Err refusal) e = absurd (true≢false (sym e))

  is-refused : (v : Result (Option Broken) Refusal) → is_ok v ≡ false → refusal_of (told v) ≡ 0 → ⊥
  unfolding told refusal_of
  is-refused (Ok broken) e z = absurd (true≢false e)
  is-refused (Err refusal) e z = refused_number refusal z

  -- not refused: the rule and the event are written
  pub sees-verdict : is_ok verdict ≡ true → (rule' event' : ℕ) → rule' ≡ rule_of (told verdict) → event' ≡ broken_at (told verdict)
      → HostJudgeLeaves left rule event number work rule' event'
  sees-verdict e rule' event' r v =
      let none = sym (ap refusal_of judges.verdict-is) ∙ is-judged verdict e in
      record {
        number_is = as-left;
        work-is = judges.work-is;
        rule-is = r ∙ ap rule_of judges.verdict-is ∙ sym (counted-now (refusal_of left.verdict) (rule_of left.verdict) rule none);
        event-is = v ∙ ap broken_at judges.verdict-is ∙ sym (counted-now (refusal_of left.verdict) (broken_at left.verdict) event none);
      }

  -- refused: they are not
  pub sees-unjudged : is_ok verdict ≡ false → (rule' event' : ℕ) → rule' ≡ rule → event' ≡ event
      → HostJudgeLeaves left rule event number work rule' event'
  sees-unjudged e rule' event' r v =
      let some = λ (z : refusal_of left.verdict ≡ 0). is-refused verdict e (ap refusal_of judges.verdict-is ∙ z) in
      record {
        number_is = as-left;
        work-is = judges.work-is;
        rule-is = r ∙ sym (counted-not (refusal_of left.verdict) (rule_of left.verdict) rule some);
        event-is = v ∙ sym (counted-not (refusal_of left.verdict) (broken_at left.verdict) event some);
      }

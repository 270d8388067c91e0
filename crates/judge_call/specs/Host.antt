-- Document 02, item 5, is stated here as a C program sees it. That its judge holds 64 line states of its own is our own
-- choice.
use Rattle.std.specs.Prelude.{ℕ, ◌≡◌, List, replicate}
use Rattle.device.specs.Device.{waiting_state}
use Rattle.image.specs.Counted.{count_after}
use Rattle.judge.specs.declared.Verdict.{Verdict}
use Rattle.judge.specs.Judge.{refusal_of, rule_of, broken_at, JudgeOutcome, judge_of}

-- Of a judgement without its line states, the verdict and the work space are left.
pub record OwnJudgeLeaves (left : JudgeOutcome) (verdict : Verdict) (work : List ℕ) : Type 0 where
  pub verdict-is : verdict ≡ left.verdict
  pub work-is : work ≡ left.work

-- The host sees of a judgement its number, the work space, the broken rule and its event; `rule` and `event` were the
-- numbers before.
pub record HostJudgeLeaves (left : JudgeOutcome) (rule event number : ℕ) (work : List ℕ) (rule' event' : ℕ)
    : Type 0 where
  pub number_is : number ≡ refusal_of left.verdict
  pub work-is : work ≡ left.work
  pub rule-is : rule' ≡ count_after (refusal_of left.verdict) (rule_of left.verdict) rule
  pub event-is : event' ≡ count_after (refusal_of left.verdict) (broken_at left.verdict) event

-- The host's judge has 64 line states, and what these hold at the start has no effect.
unfoldable pub host_judge : List ℕ → List ℕ → List ℕ → List ℕ → JudgeOutcome
host_judge image trace answers work = judge_of image trace answers work (replicate 64 waiting_state)

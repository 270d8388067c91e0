-- Document 02, item 5, is stated here: the verdict on a recorded session, and what the judge returns and leaves, for
-- every image, trace, recorded answers, work space and line states.
use Rattle.std.specs.Prelude.{ℕ, zero, suc, ◌≡◌, Bool, cond, ◌||◌, List, ◌++◌, length, drop, Option, None, Some}
use Rattle.std.specs.Prelude.{Result, Ok, Err}
use Rattle.image.specs.declared.Refusal.{Refusal}
use Rattle.image.specs.Refusal.{refusal_number}
use Rattle.image.specs.Image.{count_of}
use Rattle.device.specs.declared.LineState.{LineState}
use Rattle.bus.specs.Bus.{Device, Run, run_trace}
use Rattle.bus.specs.Run.{waiting_devices, table_of_contents, bodies_of, states_of}
use Rattle.judge.specs.declared.Rule.{Rule}
use Rattle.judge.specs.declared.Rule.TheVariants.{Answers, Command, Copy}
use Rattle.judge.specs.declared.Broken as broken
use Rattle.judge.specs.declared.Verdict.{Verdict}
use Rattle.judge.specs.declared.Verdict.TheVariants.{Accepted, Broken, Refused}
use Rattle.judge.specs.Rules.{breaks_a, breaks_b, breaks_c}
use Rattle.judge.specs.Refusal.{judge_refusal}

-- What the judge holds while it goes over a recording, and what it answers, as verdicts.
unfoldable pub so_far : Option broken.Broken → Verdict
so_far None = Accepted
so_far (Some b) = Broken b.rule b.event

unfoldable pub told : Result (Option broken.Broken) Refusal → Verdict
told (Ok verdict) = so_far verdict
told (Err refusal) = Refused (refusal_number refusal)

-- ---- the numbers of a verdict

-- Document 02 names the rules A, B and C; as numbers they are 1, 2 and 3.
unfoldable pub rule_number : Rule → ℕ
rule_number Answers = 1
rule_number Command = 2
rule_number Copy = 3

-- The refusal of a verdict is 0 where it is none.
unfoldable pub refusal_of : Verdict → ℕ
refusal_of Accepted = 0
refusal_of (Broken rule event) = 0
refusal_of (Refused number) = number

-- The rule that is broken is 0 where none is, and so is the event then.
unfoldable pub rule_of : Verdict → ℕ
rule_of Accepted = 0
rule_of (Broken rule event) = rule_number rule
rule_of (Refused number) = 0

unfoldable pub broken_at : Verdict → ℕ
broken_at Accepted = 0
broken_at (Broken rule event) = event
broken_at (Refused number) = 0

-- ---- the verdict

-- The first event that breaks a rule, if one does.
pub data First : Type 0 where
  none : First
  at : ℕ → First

unfoldable pub or_here : First → ℕ → Bool → First
or_here (at j) k here = at j
or_here none k here = cond here (at k) none

unfoldable pub first_below : ℕ → (ℕ → Bool) → First
first_below zero broken = none
first_below (suc k) broken = or_here (first_below k broken) k (broken k)

-- A is looked for first over the whole trace, then the earliest B or C.
unfoldable pub verdict_by : First → First → (ℕ → Bool) → Verdict
verdict_by (at k) later is_b = Broken Answers k
verdict_by none (at k) is_b = Broken (cond (is_b k) Command Copy) k
verdict_by none none is_b = Accepted

unfoldable pub verdict_of : List ℕ → List ℕ → List Device → Verdict
verdict_of trace answers ds =
    verdict_by
    (first_below (length trace) (breaks_a trace answers ds))
    (first_below (length trace) (λ k. breaks_b trace ds k || breaks_c trace ds k))
    (breaks_b trace ds)

-- ---- what the judge leaves

-- The judge answers its verdict and leaves the work space and the line states; the image is only read.
pub record JudgeOutcome : Type 0 where
  pub verdict : Verdict
  pub work : List ℕ
  pub lines : List LineState

abbrev pub judge_outcome : Verdict → List ℕ → List LineState → JudgeOutcome
judge_outcome verdict work lines = record { verdict = verdict; work = work; lines = lines }

-- What the judge returned and left is equal to this outcome, part by part.
pub record JudgeLeaves (left : JudgeOutcome) (verdict : Verdict) (work : List ℕ) (lines : List LineState) : Type 0 where
  pub verdict-is : verdict ≡ left.verdict
  pub work-is : work ≡ left.work
  pub lines_are : lines ≡ left.lines

-- Whatever the verdict, the work space takes the bench's image as the whole trace leaves it, and its bytes past the
-- image stay; the first n line states are those that the run leaves.
unfoldable pub left_by_judge : Verdict → Run → List ℕ → List ℕ → List LineState → JudgeOutcome
left_by_judge verdict ran image work lines =
    judge_outcome verdict
    ((table_of_contents image ++ bodies_of ran.devices) ++ drop (length image) work)
    (states_of ran.devices ++ drop (count_of image) lines)

-- By its number a recording is judged, or it is refused: then nothing is changed.
unfoldable pub judge_at : ℕ → List ℕ → List ℕ → List ℕ → List ℕ → List LineState → JudgeOutcome
judge_at zero image trace answers work lines =
    let devices = waiting_devices image in
    left_by_judge (verdict_of trace answers devices) (run_trace trace devices) image work lines
judge_at (suc n) image trace answers work lines = judge_outcome (Refused (suc n)) work lines

unfoldable pub judge_of : List ℕ → List ℕ → List ℕ → List ℕ → List LineState → JudgeOutcome
judge_of image trace answers work lines =
    judge_at (judge_refusal image trace (length answers) (length work) (length lines)) image trace answers work lines

-- Document 01, 'What stands on the bench', and document 02, item 4, are stated here: the host is a C program, whose run
-- holds 64 line states of its own and reports the bytes copied where it is not refused.
use Rattle.std.specs.Prelude.{ℕ, ◌≡◌, List, replicate}
use Rattle.device.specs.Device.{waiting_state}
use Rattle.image.specs.Counted.{count_after}
use Rattle.bus.specs.Run.{RunOutcome, RunResult, run_of}

-- Of a run without its line states, what it returns, the image and the answers are left.
pub record OwnRunLeaves (left : RunOutcome) (result : RunResult) (image answers : List ℕ) : Type 0 where
  pub result-is : result ≡ left.result
  pub image-is : image ≡ left.image
  pub answers-are : answers ≡ left.answers

-- The host sees of a run its number, the image, the answers, and the bytes copied; `copied` was the count before.
pub record HostRunLeaves (left : RunOutcome) (copied number : ℕ) (image answers : List ℕ) (copied' : ℕ) : Type 0 where
  pub number_is : number ≡ left.result.number
  pub image-is : image ≡ left.image
  pub answers-are : answers ≡ left.answers
  pub copied_is : copied' ≡ count_after left.result.number left.result.copied copied

-- The host's run has 64 line states, and what these hold at the start has no effect.
unfoldable pub host_run : List ℕ → List ℕ → List ℕ → RunOutcome
host_run image trace answers = run_of image trace answers (replicate 64 waiting_state)

-- Document 01, 'The trace and its levels' and 'Refusals in order', and document 02, item 4, are stated here: what a run
-- returns and leaves, for every image, trace and room.
use Rattle.std.specs.Prelude.{ℕ, zero, suc, ◌+◌, ◌*◌, ◌≡◌, List, [], ◌∷◌, ◌++◌, map, length, take, drop, replicate}
use Rattle.std.specs.Prelude.{Result, Ok, Err}
use Rattle.image.specs.declared.Refusal.{Refusal}
use Rattle.image.specs.Refusal.{refusal_number}
use Rattle.image.specs.Image.{count_of, kind_at, body_at}
use Rattle.device.specs.declared.LineState.{LineState}
use Rattle.device.specs.Device.{waiting_state}
use Rattle.bus.specs.Bus.{Device, device_with, Run, run_trace, copied_in_trace}
use Rattle.bus.specs.Refusal.{run_refusal}

-- These are the devices of an image from entry i on, one for each line state.
unfoldable pub devices_from : List ℕ → ℕ → List LineState → List Device
devices_from image i [] = []
devices_from image i (state ∷ states) =
    device_with (kind_at image i) (body_at image i) state ∷ devices_from image (suc i) states

-- At the start of a run every device waits for a reset.
unfoldable pub waiting_devices : List ℕ → List Device
waiting_devices image = devices_from image 0 (replicate (count_of image) waiting_state)

-- The image of devices is its table of contents, then their bodies, one after another.
abbrev pub table_of_contents : List ℕ → List ℕ
table_of_contents image = take (2 + 4 * count_of image) image

unfoldable pub bodies_of : List Device → List ℕ
bodies_of [] = []
bodies_of (d ∷ ds) = d.body ++ bodies_of ds

abbrev pub states_of : List Device → List LineState
states_of ds = map (λ d. d.state) ds

-- A run answers its number (0 where it is not refused) and the bytes copied (document 02, item 4).
pub record RunResult : Type 0 where
  pub number : ℕ
  pub copied : ℕ

abbrev pub run_result : ℕ → ℕ → RunResult
run_result number copied = record { number = number; copied = copied }

-- What a run returns says this: it is not refused and has copied so many bytes, or it is refused and has copied none.
unfoldable pub run_told : Result ℕ Refusal → RunResult
run_told (Ok copied) = run_result 0 copied
run_told (Err refusal) = run_result (refusal_number refusal) 0

-- A run leaves that, the image, the answers and the line states.
pub record RunOutcome : Type 0 where
  pub result : RunResult
  pub image : List ℕ
  pub answers : List ℕ
  pub lines : List LineState

abbrev pub run_outcome : RunResult → List ℕ → List ℕ → List LineState → RunOutcome
run_outcome result image answers lines = record { result = result; image = image; answers = answers; lines = lines }

-- What a run returned and left is equal to this outcome, part by part.
pub record RunLeaves (left : RunOutcome) (result : RunResult) (image answers : List ℕ) (lines : List LineState)
    : Type 0 where
  pub result-is : result ≡ left.result
  pub image-is : image ≡ left.image
  pub answers-are : answers ≡ left.answers
  pub lines_are : lines ≡ left.lines

-- A run that is not refused leaves the bytes and line states past those named as they were; what the line states held
-- before is ignored.
unfoldable pub left_by_run : Run → ℕ → List ℕ → List ℕ → List ℕ → List LineState → RunOutcome
left_by_run ran copied image trace answers lines =
    run_outcome (run_result 0 copied)
    (table_of_contents image ++ bodies_of ran.devices)
    (ran.answers ++ drop (length trace) answers)
    (states_of ran.devices ++ drop (count_of image) lines)

-- By its number the trace is run, or it is refused: then nothing is changed, and no byte is copied.
unfoldable pub run_at : ℕ → List ℕ → List ℕ → List ℕ → List LineState → RunOutcome
run_at zero image trace answers lines =
    let devices = waiting_devices image in
    left_by_run (run_trace trace devices) (copied_in_trace trace devices) image trace answers lines
run_at (suc n) image trace answers lines = run_outcome (run_result (suc n) 0) image answers lines

unfoldable pub run_of : List ℕ → List ℕ → List ℕ → List LineState → RunOutcome
run_of image trace answers lines =
    run_at (run_refusal image trace (length answers) (length lines)) image trace answers lines

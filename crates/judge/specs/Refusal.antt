-- Document 01, 'Refusals in order', and document 02, items 5 and 6, are stated here: the causes for which a recording
-- is not judged. All but the last are the run's.
use Rattle.std.specs.Prelude.{ℕ, Bool, not, ◌||◌, List, [], ◌∷◌, ◌++◌, length, eqb, ltb}
use Rattle.image.specs.Image.{count_of}
use Rattle.image.specs.Refusal.{Cause, cause, first_cause, image_causes}
use Rattle.bus.specs.Refusal.{bad_trace, no_first_reset, bad_pulse}

-- Cause 7 is recorded answers of another length than the trace, a work space shorter than the image, or fewer than n
-- line states for n devices.
unfoldable pub no_judge_room : List ℕ → List ℕ → ℕ → ℕ → ℕ → Bool
no_judge_room image trace answers work lines =
    not (eqb answers (length trace)) || ltb work (length image) || ltb lines (count_of image)

-- The first cause of this list that applies is the judge's number; the order is 1 to 5, 11, 6, 7.
unfoldable pub judge_causes : List ℕ → List ℕ → ℕ → ℕ → ℕ → List Cause
judge_causes image trace answers work lines =
    image_causes image
    ++ cause 5 (bad_trace trace)
    ∷ cause 11 (no_first_reset trace)
    ∷ cause 6 (bad_pulse image trace)
    ∷ cause 7 (no_judge_room image trace answers work lines)
    ∷ []

unfoldable pub judge_refusal : List ℕ → List ℕ → ℕ → ℕ → ℕ → ℕ
judge_refusal image trace answers work lines = first_cause (judge_causes image trace answers work lines)

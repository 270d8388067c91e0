-- Document 01, 'Refusals in order', and document 02, items 6 and 9, are stated here: the causes 5, 11, 6 and 7, each
-- over the whole input. They come after the causes that the image alone can give.
use Rattle.std.specs.Prelude.{ℕ, Bool, false, not, ◌&&◌, ◌||◌, List, [], ◌∷◌, ◌++◌, length, eqb, ltb}
use Rattle.kind.specs.Kind.{is_eprom}
use Rattle.image.specs.Image.{count_of, kind_at}
use Rattle.image.specs.Refusal.{some_below, Cause, cause, first_cause, image_causes}

-- A test passes at some byte of a trace.
unfoldable pub some_byte : (ℕ → Bool) → List ℕ → Bool
some_byte p [] = false
some_byte p (byte ∷ trace) = p byte || some_byte p trace

-- Cause 5 is a trace of over 32,768 events, or with a byte over 6 (document 02, item 9).
unfoldable pub bad_trace : List ℕ → Bool
bad_trace trace = ltb 32768 (length trace) || some_byte (λ byte. ltb 6 byte) trace

-- Cause 11 is a trace that is not empty and does not begin with a regular reset, a 2 (document 02, item 6).
unfoldable pub no_first_reset : List ℕ → Bool
no_first_reset [] = false
no_first_reset (byte ∷ trace) = not (eqb byte 2)

-- Cause 6 is a program pulse, a 3, in the trace while a device is not a DS1982.
unfoldable pub bad_pulse : List ℕ → List ℕ → Bool
bad_pulse image trace =
    some_byte (λ byte. eqb byte 3) trace
    && some_below (count_of image) (λ i. not (is_eprom (kind_at image i)))

-- Cause 7 is answers that are shorter than the trace, or fewer than n line states for n devices.
unfoldable pub no_run_room : List ℕ → List ℕ → ℕ → ℕ → Bool
no_run_room image trace answers lines = ltb answers (length trace) || ltb lines (count_of image)

-- The first cause of this list that applies is the run's number; the order is 1 to 5, 11, 6, 7.
unfoldable pub run_causes : List ℕ → List ℕ → ℕ → ℕ → List Cause
run_causes image trace answers lines =
    image_causes image
    ++ cause 5 (bad_trace trace)
    ∷ cause 11 (no_first_reset trace)
    ∷ cause 6 (bad_pulse image trace)
    ∷ cause 7 (no_run_room image trace answers lines)
    ∷ []

unfoldable pub run_refusal : List ℕ → List ℕ → ℕ → ℕ → ℕ
run_refusal image trace answers lines = first_cause (run_causes image trace answers lines)

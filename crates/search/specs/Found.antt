-- Document 01, 'The searching master' and 'Refusals in order', is stated here: what a search returns and leaves, for
-- every image and room.
use Rattle.std.specs.Prelude.{ℕ, zero, suc, ◌≡◌, List, [], ◌++◌, length, drop, Result, Ok, Err}
use Rattle.image.specs.declared.Refusal.{Refusal}
use Rattle.image.specs.Image.{count_of}
use Rattle.image.specs.Refusal.{refusal_number}
use Rattle.device.specs.declared.LineState.{LineState}
use Rattle.master.specs.Drive.{written_over}
use Rattle.bus.specs.Run.{states_of}
use Rattle.search_laws.specs.Search.{Search, search_of}
use Rattle.search_laws.specs.Words.{resets_in, slots_in, passes_in}
use Rattle.search.specs.declared.Found.{Found}
use Rattle.search.specs.Refusal.{search_refusal}

-- A search tells its number, 0 where it is not refused, and counts passes, resets and slots.
pub record SearchTold : Type 0 where
  pub number : ℕ
  pub passes : ℕ
  pub resets : ℕ
  pub slots : ℕ

-- A search that is refused has counted nothing.
unfoldable pub search_told : Result Found Refusal → SearchTold
search_told (Ok found) = record { number = 0; passes = found.passes; resets = found.resets; slots = found.slots }
search_told (Err refusal) = record { number = refusal_number refusal; passes = 0; resets = 0; slots = 0 }

-- The passes, resets and slots are counted in the trace.
unfoldable pub found_in : ℕ → List ℕ → SearchTold
found_in number trace =
    record { number = number; passes = passes_in trace; resets = resets_in trace; slots = slots_in trace }

-- A search leaves what it tells, the codes, the trace and the line states; the image is only read.
pub record SearchOutcome : Type 0 where
  pub found : SearchTold
  pub codes : List ℕ
  pub trace : List ℕ
  pub lines : List LineState

abbrev pub search_outcome : SearchTold → List ℕ → List ℕ → List LineState → SearchOutcome
search_outcome found codes trace lines = record { found = found; codes = codes; trace = trace; lines = lines }

-- What a search told and left is equal to this outcome, part by part.
pub record SearchLeaves (left : SearchOutcome) (found : SearchTold) (codes trace : List ℕ) (lines : List LineState)
    : Type 0 where
  pub found-is : found ≡ left.found
  pub codes-are : codes ≡ left.codes
  pub trace-is : trace ≡ left.trace
  pub lines_are : lines ≡ left.lines

-- A search that is not refused leaves the bytes and line states past those named as they were; what the line states
-- held before is ignored.
unfoldable pub left_by_search : Search → List ℕ → List ℕ → List ℕ → List LineState → SearchOutcome
left_by_search s image codes trace lines =
    search_outcome (found_in 0 s.trace) (written_over s.codes codes) (written_over s.trace trace)
    (states_of s.devices ++ drop (count_of image) lines)

-- By its number the search is made, or it is refused, and nothing is changed and nothing counted.
unfoldable pub search_outcome_at : ℕ → List ℕ → List ℕ → List ℕ → List LineState → SearchOutcome
search_outcome_at zero image codes trace lines = left_by_search (search_of image) image codes trace lines
search_outcome_at (suc n) image codes trace lines = search_outcome (found_in (suc n) []) codes trace lines

unfoldable pub search_outcome_of : List ℕ → List ℕ → List ℕ → List LineState → SearchOutcome
search_outcome_of image codes trace lines =
    search_outcome_at (search_refusal image (length codes) (length trace) (length lines)) image codes trace lines

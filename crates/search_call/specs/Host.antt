-- Document 01, 'The searching master', is stated here as a C program sees it. That its search holds 64 line states of
-- its own is our own choice.
use Rattle.std.specs.Prelude.{ℕ, ◌≡◌, List, replicate}
use Rattle.device.specs.Device.{waiting_state}
use Rattle.image.specs.Counted.{count_after}
use Rattle.search.specs.Found.{SearchTold, SearchOutcome, search_outcome_of}

-- Of a search without its line states, what it tells, the codes and the trace are left.
pub record OwnSearchLeaves (left : SearchOutcome) (found : SearchTold) (codes trace : List ℕ) : Type 0 where
  pub found-is : found ≡ left.found
  pub codes-are : codes ≡ left.codes
  pub trace-is : trace ≡ left.trace

-- The host sees of a search its number, the codes, the trace, and the three counts; `passes`, `resets` and `slots` were
-- the counts before.
pub record HostSearchLeaves (left : SearchOutcome) (passes resets slots number : ℕ) (codes trace : List ℕ)
    (passes' resets' slots' : ℕ) : Type 0 where
  pub number_is : number ≡ left.found.number
  pub codes-are : codes ≡ left.codes
  pub trace-is : trace ≡ left.trace
  pub passes-are : passes' ≡ count_after left.found.number left.found.passes passes
  pub resets-are : resets' ≡ count_after left.found.number left.found.resets resets
  pub slots-are : slots' ≡ count_after left.found.number left.found.slots slots

-- The host's search has 64 line states, and what these hold at the start has no effect.
unfoldable pub host_search : List ℕ → List ℕ → List ℕ → SearchOutcome
host_search image codes trace = search_outcome_of image codes trace (replicate 64 waiting_state)

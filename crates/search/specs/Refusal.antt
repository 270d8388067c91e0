-- Document 01, 'Refusals in order', is stated here for a search: the image's causes, and 7, each over the whole input.
-- That fewer than n lent line states are a 7 too is our own cause, as document 01's search is lent none; the host's
-- search, which has 64 of its own, never meets it.
use Rattle.std.specs.Prelude.{ℕ, ◌*◌, Bool, ◌||◌, List, [], ◌∷◌, ◌++◌, ltb}
use Rattle.image.specs.Image.{count_of}
use Rattle.image.specs.Refusal.{Cause, cause, first_cause, image_causes}
use Rattle.master.specs.Master.{code_bytes}
use Rattle.search_laws.specs.Searched.{events_for}

-- Cause 7 is room for codes under 8n, or for the trace under 201n, or under 1 with n = 0; our own is fewer than n lent
-- line states.
unfoldable pub no_search_room : List ℕ → ℕ → ℕ → ℕ → Bool
no_search_room image codes trace lines =
    ltb codes (code_bytes * count_of image) || ltb trace (events_for (count_of image)) || ltb lines (count_of image)

-- The first cause of this list that applies is the search's number.
unfoldable pub search_causes : List ℕ → ℕ → ℕ → ℕ → List Cause
search_causes image codes trace lines = image_causes image ++ cause 7 (no_search_room image codes trace lines) ∷ []

unfoldable pub search_refusal : List ℕ → ℕ → ℕ → ℕ → ℕ
search_refusal image codes trace lines = first_cause (search_causes image codes trace lines)

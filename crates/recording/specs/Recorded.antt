-- Document 02, item 5, is stated here for one event of a recorded session: its answer as it was recorded, and the
-- reader's next place.
use Rattle.std.specs.Prelude.{ℕ, suc, Bool, cond, ◌&&◌, List, length, get_or, eqb, ltb}
use Rattle.bits.specs.Bit.{level_byte}

-- The answer that was recorded for event k is this level. A recorded byte over 1 is no level, and past the end of the
-- trace or of the answers none was recorded.
unfoldable pub agrees_at : List ℕ → List ℕ → ℕ → Bool → Bool
agrees_at trace answers k level =
    ltb k (length trace) && (ltb k (length answers) && eqb (get_or answers k 0) (level_byte level))

-- The recorded answer of event k as a level.
unfoldable pub level_at : List ℕ → ℕ → Bool
level_at answers k = eqb (get_or answers k 0) 1

-- The place after event k of a trace with so many events. At its end the place stays.
unfoldable pub next_at : ℕ → ℕ → ℕ
next_at events k = cond (ltb k events) (suc k) k

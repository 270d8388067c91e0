-- Document 01, 'Refusals in order', is stated here for the numbers that a C program is given, by the run, the search
-- and the judge alike: a refused call changes none.
use Rattle.std.specs.Prelude.{ℕ, zero, suc}

-- A number is written where a call is not refused, and else stays as it was.
unfoldable pub count_after : ℕ → ℕ → ℕ → ℕ
count_after zero count before = count
count_after (suc number) count before = before

-- This is the outcome, as the tests see it, of a master that is driven with recorded levels.
use Rattle.std.specs.Prelude.{ℕ}
use Rattle.master.specs.Master.{end_number}
use Rattle.master.specs.declared.driving.Outcome.{Outcome}
use Rattle.master.specs.declared.driving.Outcome.TheVariants.{Refused, Ended, Unfinished}

-- The number of an outcome is 7, which is our own, or document 01's number of the master's end. Where the master would
-- go on there is none, and it is 255.
unfoldable pub outcome_byte : Outcome → ℕ
outcome_byte Refused = 7
outcome_byte (Ended e) = end_number e
outcome_byte Unfinished = 255

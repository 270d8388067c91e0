-- Document 01, 'The trace and its levels', is stated here for several slots of one transfer, in the picture of our own
-- that `Transfers.antt` gives. The laws of a transfer (`proofs/Transfers.antt`) are stated in these words.
use Rattle.std.specs.Prelude.{Bool, List, [], ◌∷◌}
use Rattle.line.specs.Transfers.{transfer_sends, shifted}
use Rattle.line.specs.declared.Transfer.{Transfer}

-- These are the levels that a device sends in slots in which the line has the given levels.
unfoldable pub levels_sent_over : Transfer → List Bool → List Bool
levels_sent_over transfer [] = []
levels_sent_over transfer (level ∷ levels) = transfer_sends transfer ∷ levels_sent_over (shifted transfer level) levels

-- This is the transfer after slots in which the line has the given levels.
unfoldable pub shifted_over : Transfer → List Bool → Transfer
shifted_over transfer [] = transfer
shifted_over transfer (level ∷ levels) = shifted_over (shifted transfer level) levels

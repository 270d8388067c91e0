use Rattle.search.specs.Found.{found_in, search_told}
use Rattle.search.proofs.tally.Goals as goal

pub returns : goal.returns
unfolding found_in search_told
returns c = simp (c.slots_in.ensures, c.resets_in.ensures, c.passes_in.ensures)

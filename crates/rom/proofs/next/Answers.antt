use Rattle.std.proofs.Common.{arith}
use Rattle.std.proofs.lemmas.Grind.{common_steps}
use Rattle.rom.specs.Rom.{rom_next, after_match, after_search, after_overdrive_match}
use Rattle.rom.proofs.next.Goals as goal

pub returns-in-Match : goal.returns-in-Match
unfolding rom_next after_match
returns-in-Match c = grind (arith, common_steps)

pub returns-in-Search : goal.returns-in-Search
unfolding rom_next after_search
returns-in-Search c = grind (arith, common_steps)

pub returns-in-OverdriveMatch : goal.returns-in-OverdriveMatch
unfolding rom_next after_overdrive_match
returns-in-OverdriveMatch c = grind (arith, common_steps)

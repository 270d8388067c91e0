use Rattle.std.proofs.Common.{sym, ◌∙◌}
use Rattle.master.proofs.Laws.{fewer-passes}
use Rattle.master.proofs.Master.after.Goals as goal

pub after_direction-requires : goal.after_direction-requires
after_direction-requires c = fewer-passes _ _ _ c.in-Direction.is (sym c.in_range.ensures ∙ c.if-not-in_range.false)

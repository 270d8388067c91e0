use Rattle.troughiron.proofs.Laws.{sees-copied, sees-refused}
use Rattle.troughiron.proofs.troughiron_run.Goals as goal

pub returns-in-Ok : goal.returns-in-Ok
returns-in-Ok c = sees-copied _ c.args.copied.now _ _ c.in-Ok.bytes c.in-Ok.ensures

pub returns-in-Err : goal.returns-in-Err
returns-in-Err c = rw c.from.ensures (sees-refused _ c.args.copied.now _ _ c.in-Err.refusal c.in-Err.ensures)

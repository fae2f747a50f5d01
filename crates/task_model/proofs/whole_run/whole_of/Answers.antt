use Rattle.std.proofs.Common.{refl}
use Rattle.task_model.proofs.Ends.{stopped}
use Rattle.task_model.proofs.whole_run.whole_of.Goals as goal

pub returns-in-Trap-clause-exact : goal.returns-in-Trap-clause-exact
returns-in-Trap-clause-exact c = λ set e h. stopped set c.args.objects.now e c.args.progress _ c.args.outcome c.in-Trap.field-0 h c.in-Trap.is refl refl c.empty.ensures c.restore.ensures c.clear.ensures

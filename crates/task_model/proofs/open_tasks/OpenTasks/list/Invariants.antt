use Rattle.std.proofs.Common.{◌≡◌, map}
use Rattle.std.specs.Map.Iter.{deref_pair}
use Rattle.set_model.specs.Views.{task_of}
use Rattle.task_model.specs.Tables.{listed}
use Rattle.task_model.proofs.open_tasks.OpenTasks.list.Given as goal

abbrev pub invariant-loop-id : goal.invariant-loop-id
invariant-loop-id l = map task_of l.list ≡ map listed (map deref_pair l.yielded)

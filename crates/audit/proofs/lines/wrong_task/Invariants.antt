use Rattle.std.proofs.Common.{◌≡◌, ◌+◌, map, drop}
use Rattle.set_model.specs.Views.{task_of}
use Rattle.audit.specs.Differences.{same_task, unlike_from}
use Rattle.audit.proofs.lines.wrong_task.Given as goal

abbrev pub invariant-loop-k : goal.invariant-loop-k
invariant-loop-k l = unlike_from same_task l.fn.line (map task_of l.told) (map task_of l.left) ≡ unlike_from same_task (l.fn.line + l.k) (drop l.k (map task_of l.told)) (drop l.k (map task_of l.left))

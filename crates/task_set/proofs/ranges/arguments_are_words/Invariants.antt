use Rattle.std.proofs.Common.{take}
use Rattle.std.specs.List.{AllByRecursion}
use Rattle.set_model.specs.Limits.{IsWord}
use Rattle.task_set.proofs.ranges.arguments_are_words.Given as goal

abbrev pub invariant-loop-task : goal.invariant-loop-task
invariant-loop-task l = AllByRecursion (λ t. IsWord t.arg) (take l.task-index l.tasks)

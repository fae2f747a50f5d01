use Rattle.std.proofs.Common.{◌≡◌, ◌++◌, map, take}
use Rattle.std.specs.List.{flat_map}
use Rattle.set_model.specs.Views.{spawn_of}
use Rattle.task_image.specs.Packed.{packed_task}
use Rattle.task_image.proofs.writing.put_tasks.Given as goal

abbrev pub invariant-loop-task : goal.invariant-loop-task
invariant-loop-task l = l.out.items ≡ l.fn.out.items ++ flat_map packed_task (map spawn_of (take l.task-index l.task-items))

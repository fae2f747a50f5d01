use Rattle.std.proofs.Common.{◌≡◌, ◌+◌, ◌++◌, map, take}
use Rattle.kernel_model.specs.OpenTasks.{children}
use Rattle.set_model.specs.Views.{spawn_of, task_of}
use Rattle.task_model.proofs.task_list.TaskList.push_children.Given as goal

abbrev pub invariant-loop-spawn : goal.invariant-loop-spawn
invariant-loop-spawn l = record {
  added : map task_of l.self ≡ map task_of l.fn.self ++ children l.fn.first.0 (map spawn_of (take l.spawn-index l.spawns));
  id : l.id ≡ l.fn.first.0 + l.spawn-index;
}

use Rattle.std.proofs.Common.{◌≡◌, ◌+◌, ◌++◌, map, take, vec_capacity}
use Rattle.kernel_model.specs.OpenTasks.{children}
use Rattle.set_model.specs.Views.{spawn_of, task_of}
use Rattle.task_queue.proofs.queue.append.Given as goal

abbrev pub invariant-loop-spawn : goal.invariant-loop-spawn
invariant-loop-spawn l = record {
  added : map task_of l.tasks.items ≡ map task_of l.fn.tasks.items ++ children l.first (map spawn_of (take l.spawn-index l.spawns));
  id : l.id ≡ l.first + l.spawn-index;
  room : vec_capacity l.tasks ≡ vec_capacity l.fn.tasks;
}

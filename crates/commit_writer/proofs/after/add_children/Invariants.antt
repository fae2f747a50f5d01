use Rattle.std.proofs.Common.{◌≡◌, ◌+◌, ◌++◌, map, take, vec_len, vec_capacity}
use Rattle.kernel_model.specs.OpenTasks.{children}
use Rattle.set_model.specs.Views.{spawn_of, task_of}
use Rattle.commit_writer.proofs.after.add_children.Given as goal

abbrev pub invariant-loop-spawn : goal.invariant-loop-spawn
invariant-loop-spawn l = record {
  tasks : map task_of l.tasks.items ≡ map task_of l.initial.tasks.items ++ children l.fn.first.0 (map spawn_of (take l.spawn-index l.spawns));
  id : l.id ≡ l.fn.first.0 + l.spawn-index;
  long : vec_len l.tasks ≡ vec_len l.initial.tasks + l.spawn-index;
  room : vec_capacity l.tasks ≡ vec_capacity l.initial.tasks;
}

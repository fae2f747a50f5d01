use Rattle.std.proofs.Common.{◌≡◌, ◌≤◌, map, take, vec_len, vec_capacity}
use Rattle.kernel_model.specs.OpenTasks.{others_than}
use Rattle.set_model.specs.Views.{task_of}
use Rattle.commit_writer.proofs.after.keep_others.Given as goal

abbrev pub invariant-loop-open : goal.invariant-loop-open
invariant-loop-open l = record {
  kept : map task_of l.after.items ≡ others_than l.task.0 (map task_of (take l.open-index l.before));
  few : vec_len l.after ≤ l.open-index;
  room : vec_capacity l.after ≡ vec_capacity l.initial.after;
}

use Rattle.std.proofs.Common.{◌≡◌, take, vec_capacity}
use Rattle.task_queue.proofs.queue.replace.Given as goal

abbrev pub invariant-loop-task : goal.invariant-loop-task
invariant-loop-task l = record {
  replaced : l.tasks.items ≡ take l.task-index l.others;
  room : vec_capacity l.tasks ≡ vec_capacity l.fn.tasks;
}

use Rattle.std.proofs.Common.{◌≡◌, None, map, not, take}
use Rattle.std.specs.List.{find}
use Rattle.set_model.specs.Views.{task_of}
use Rattle.task_queue.specs.Queues.{is_held}
use Rattle.task_queue.proofs.queue.Queue.next_ready.Given as goal

abbrev pub invariant-loop-task : goal.invariant-loop-task
invariant-loop-task l = record {
  none : find (λ t. not (is_held (map (λ id. id.0) l.held) t.id)) (take l.task-index (map task_of l.task-items)) ≡ None;
  items : map task_of l.task-items ≡ l.self.tasks;
}

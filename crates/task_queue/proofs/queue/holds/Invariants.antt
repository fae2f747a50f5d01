use Rattle.std.proofs.Common.{◌≡◌, false, map, take}
use Rattle.task_queue.specs.Queues.{is_held}
use Rattle.task_queue.proofs.queue.holds.Given as goal

abbrev pub invariant-loop-id : goal.invariant-loop-id
invariant-loop-id l = is_held (map (λ id. id.0) (take l.id-index l.held)) l.task.0 ≡ false

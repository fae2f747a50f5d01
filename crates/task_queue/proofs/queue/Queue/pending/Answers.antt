use Rattle.std.proofs.Common.{arith}
use Rattle.std.proofs.lemmas.List.{length-map}
use Rattle.set_model.specs.Views.{task_of}
use Rattle.task_queue.proofs.queue.Queue.pending.Goals as goal

pub overflow_cast-result : goal.overflow_cast-result
overflow_cast-result c = omega (arith, c.self.invariant.0.few, length-map c.self.inside.tasks.items task_of)

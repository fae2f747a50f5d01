use Rattle.std.proofs.Common.{ap, ◌∙◌, arith}
use Rattle.core_seats.specs.Others.{task_in}
use Rattle.core_seats.proofs.Beside.{one_task}
use Rattle.core_seats.proofs.seats.held.Goals as goal

pub loop-seat-preserved : goal.loop-seat-preserved
loop-seat-preserved c = record {
  listed = one_task c.args.seats.now c.loop-seat.seat-index c.seat-item.result _ _ c.task.result (omega arith) c.loop-seat.invariant.listed (c.task.ensures ∙ ap task_in c.seat-item.is) c.add_task-count.ensures.put;
  few = omega (arith, c.loop-seat.invariant.few, c.add_task-count.ensures.few);
  long = c.type_inv.tasks;
}

use Rattle.std.proofs.Common.{List, ap, ◌∙◌, is_some, not}
use Rattle.std.specs.List.{list_any}
use Rattle.kernel_model.specs.Replay.{TaskRec}
use Rattle.task_queue.specs.Queues.{next_ready}
use Rattle.core_seats.specs.declared.seat.Seat.{Seat}
use Rattle.core_seats.specs.Others.{tasks_in}
use Rattle.kernel_core.specs.Turns.{is_on}
use Rattle.kernel_core.proofs.Unchanged.{any_free}
use Rattle.kernel_core.proofs.kernel.Kernel.has_ready.Goals as goal

pub returns : goal.returns
returns c =
    let seats = c.args.self.now.seats.items in
    let left = c.open_tasks.result.now in
    c.has_free.ensures
    ∙ ap (λ (ss : List Seat). list_any (λ t. not (list_any (λ s. is_on t.id.0 s) ss)) left) c.deref.ensures.value
    ∙ any_free seats left
    ∙ ap (λ (tasks : List TaskRec). is_some (next_ready (tasks_in seats) tasks)) c.open_tasks.ensures

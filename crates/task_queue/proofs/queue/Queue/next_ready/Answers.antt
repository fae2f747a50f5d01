use Rattle.std.proofs.Common.{◌≡◌, ◌+◌, ◌<◌, Bool, true, false, Option, Some, length, map, not, get_or, sym, ap, ◌∙◌, arith}
use Rattle.std.proofs.Math.ListN.{get_or-map}
use Rattle.std.proofs.lemmas.List.{length-map}
use Rattle.std.specs.List.{find}
use Rattle.kernel_model.specs.Replay.{TaskRec}
use Rattle.set_model.specs.Views.{task_of}
use Rattle.nv_base.specs.declared.lines.TaskRec as base
use Rattle.task_queue.specs.Queues.{is_held}
use Rattle.task_queue.proofs.Lists.{first_found, none_found}
use Rattle.task_queue.proofs.queue.Queue.next_ready.Goals as goal

pub returns-then-not-holds : goal.returns-then-not-holds
returns-then-not-holds c =
    let ids = map (λ id. id.0) c.args.held.now in
    let items = c.deref-task-items.result.now in
    let i = c.loop-task.task-index in
    let d : base.TaskRec = record { id = record { 0 = 0 }; program = record { 0 = 0 }; arg = 0 } in
    let test : TaskRec → Bool = λ t. not (is_held ids t.id) in
    let at : get_or (map task_of items) i (task_of d) ≡ task_of (get_or items i d) = get_or-map task_of items i d in
    let free : test (get_or (map task_of items) i (task_of d)) ≡ not false = ap test at ∙ ap not (sym c.if-not-holds.ensures) in
    sym (ap (find test) (sym c.loop-task.invariant.items)
    ∙ first_found test (map task_of items) i (task_of d) (omega (arith, length-map items task_of)) c.loop-task.invariant.none free
    ∙ ap Some at)

pub loop-task-preserved : goal.loop-task-preserved
loop-task-preserved c =
    let ids = map (λ id. id.0) c.args.held.now in
    let items = c.deref-task-items.result.now in
    let i = c.loop-task.task-index in
    let d : base.TaskRec = record { id = record { 0 = 0 }; program = record { 0 = 0 }; arg = 0 } in
    let test : TaskRec → Bool = λ t. not (is_held ids t.id) in
    let at : get_or (map task_of items) i (task_of d) ≡ task_of (get_or items i d) = get_or-map task_of items i d in
    let held : test (get_or (map task_of items) i (task_of d)) ≡ not true = ap test at ∙ ap not (sym c.if-not-holds.ensures) in
    record {
      none = none_found test (map task_of items) i (task_of d) (omega (arith, length-map items task_of)) c.loop-task.invariant.none held;
      items = c.loop-task.invariant.items;
    }

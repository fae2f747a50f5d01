use Rattle.std.proofs.Common.{map}
use Rattle.std.proofs.lemmas.List.{map_push}
use Rattle.std.proofs.lemmas.Result.{err_from_is_err_and}
use Rattle.set_model.specs.Views.{spawn_of}
use Rattle.task_image.specs.Unpacked.{task}
use Rattle.task_image.proofs.Several.{several_more, several_stop, several_done}
use Rattle.task_image.proofs.parts.tasks.Goals as goal

pub returns-in_err-task : goal.returns-in_err-task
returns-in_err-task c =
    let p = err_from_is_err_and c.from_residual.result c.from_residual.ensures.1 in
    rw (p.1, p.2) (several_stop c.in_err-task.field-0.0 c.args.n c.loop.counter (λ _. task c.args.programs) (map spawn_of c.loop.tasks) c.loop.cursor _ c.loop-test.true c.in_err-task.ensures c.loop.invariant)

pub loop-preserved : goal.loop-preserved
loop-preserved c =
    rw (c.in_ok-push.ensures, map_push spawn_of c.loop.tasks c.in_ok-task.field-0)
    (several_more c.args.n c.loop.counter (λ _. task c.args.programs) (map spawn_of c.loop.tasks) c.loop.cursor c.task.new.cursor (spawn_of c.in_ok-task.field-0) _ c.loop-test.true c.in_ok-task.ensures c.loop.invariant)

pub returns : goal.returns
returns c = several_done c.args.n c.loop.counter (λ _. task c.args.programs) (map spawn_of c.loop.tasks) c.loop.cursor _ c.loop-test.false c.loop.invariant

use Rattle.std.proofs.Common.{◌<◌, length, subst, sym}
use Rattle.nv_base.specs.Streams.{PutsFront, PutsText}
use Rattle.set_model.specs.Views.{task_of}
use Rattle.report_text.specs.Lines.{open_text}
use Rattle.simulation.proofs.Fronts.{puts_nothing}
use Rattle.simulation.proofs.ReadBack.{at_place, cut_text, last_text, next_text, of_mapped}
use Rattle.simulation.proofs.read_back.put_open_tasks.Goals as goal

pub loop-task-init : goal.loop-task-init
loop-task-init g c = puts_nothing _

pub put_open_task-requires : goal.put_open_task-requires
put_open_task-requires g c = at_place (λ t. t.program.0 < length c.args.set.now.programs) c.args.tasks.now c.loop-task.task-index _ c.requires c.loop-task-test.true

pub loop-task-preserved : goal.loop-task-preserved
loop-task-preserved g c =
    next_text (λ t. open_text c.args.set.now (task_of t)) c.args.tasks.now c.loop-task.task-index _ _ _ _ c.loop-task-test.true c.loop-task.invariant c.in-Ok.ensures.all

pub returns-in_default-clause-front : goal.returns-in_default-clause-front
returns-in_default-clause-front g c =
    subst (λ t. PutsFront t (g.K.Sink.seen c.args.out.now) (g.K.Sink.seen c.put_open_task.new.out)) (sym (of_mapped (open_text c.args.set.now) task_of c.args.tasks.now))
    (cut_text (λ t. open_text c.args.set.now (task_of t)) c.args.tasks.now c.loop-task.task-index _ _ _ _ c.loop-task-test.true c.loop-task.invariant c.in_default.ensures.front)

pub returns-clause-all : goal.returns-clause-all
returns-clause-all g c =
    subst (λ t. PutsText t (g.K.Sink.seen c.args.out.now) (g.K.Sink.seen c.loop-task.out)) (sym (of_mapped (open_text c.args.set.now) task_of c.args.tasks.now))
    (last_text (λ t. open_text c.args.set.now (task_of t)) c.args.tasks.now c.loop-task.task-index _ _ c.loop-task-test.false c.loop-task.invariant)

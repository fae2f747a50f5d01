use Rattle.std.proofs.Common.{take}
use Rattle.std.specs.List.{flat_map}
use Rattle.nv_base.specs.Streams.{PutsText}
use Rattle.set_model.specs.Views.{task_of}
use Rattle.report_text.specs.Lines.{open_text}
use Rattle.simulation.proofs.read_back.put_open_tasks.Given as goal

abbrev pub invariant-loop-task : goal.invariant-loop-task
invariant-loop-task g l = PutsText (flat_map (λ t. open_text l.set (task_of t)) (take l.task-index l.tasks)) (g.K.Sink.seen l.initial.out) (g.K.Sink.seen l.out)

use Rattle.std.proofs.Common.{◌≡◌, ◌++◌, map, take}
use Rattle.std.specs.List.{flat_map}
use Rattle.set_model.specs.Views.{task_of}
use Rattle.report_text.specs.Lines.{open_text}
use Rattle.sim_run.proofs.finishes.Text.push_tasks.Given as goal

abbrev pub invariant-loop-task : goal.invariant-loop-task
invariant-loop-task l = l.self.bytes.items ≡ l.initial.self.bytes.items ++ flat_map (open_text l.set) (map task_of (take l.task-index l.tasks))

use Rattle.std.proofs.Common.{ap, ◌∙◌, map, length}
use Rattle.set_model.specs.Views.{spawn_of}
use Rattle.task_set.proofs.TaskFacts.{tasks_name_programs}
use Rattle.task_set.proofs.limits.task_programs_hold.Goals as goal

pub returns : goal.returns
returns c =
    tasks_name_programs _ c.args.parts.now _ _ c.name_programs.ensures (ap (map spawn_of) c.as_slice-tasks.ensures ∙ ap (λ s. s.tasks) c.parts.view_is)
    (ap length (c.as_slice-programs.ensures ∙ ap (λ s. s.programs) c.parts.view_is))

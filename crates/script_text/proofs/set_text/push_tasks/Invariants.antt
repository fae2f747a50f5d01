use Rattle.std.proofs.Common.{◌≡◌, ◌++◌, take, map}
use Rattle.std.specs.List.{flat_map}
use Rattle.std.specs.String.{string_bytes}
use Rattle.set_model.specs.Views.{spawn_of}
use Rattle.script_text.specs.ScriptText.{task_text}
use Rattle.script_text.proofs.set_text.push_tasks.Given as goal

-- the tasks so far are written
abbrev pub invariant-loop-task : goal.invariant-loop-task
invariant-loop-task l = string_bytes l.out ≡ string_bytes l.initial.out ++ flat_map (task_text l.set) (map spawn_of (take l.task-index l.task-items))

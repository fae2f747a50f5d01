use Rattle.std.proofs.Common.{ℕ, zero, suc, ◌<◌, List, [], ◌∷◌, length, map, get_or, arith, subst, sym}
use Rattle.std.specs.List.{AllByRecursion}
use Rattle.nv_base.specs.declared.lines.Spawn.{Spawn}
use Rattle.kernel_model.specs.Effects as model
use Rattle.set_model.specs.Limits.{IsTask}
use Rattle.set_model.specs.Views.{spawn_of}
use Rattle.script_text.proofs.set_text.push_tasks.Goals as goal

program_is_there : (programs : ℕ) (tasks : List Spawn) (i : ℕ) (none : Spawn) → AllByRecursion (IsTask programs) (map spawn_of tasks) → i < length tasks → (get_or tasks i none).program.0 < programs
program_is_there programs [] i none h l = absurd (omega arith)
program_is_there programs (task ∷ tasks) zero none h l = h.0.program
program_is_there programs (task ∷ tasks) (suc i) none h l = program_is_there programs tasks i none h.1 (omega arith)

pub push_task-requires : goal.push_task-requires
push_task-requires c =
    let all : AllByRecursion (IsTask (length c.args.set.now.programs)) (map spawn_of c.tasks-task-items.result.now) = subst (λ (ts : List model.Spawn). AllByRecursion (IsTask (length c.args.set.now.programs)) ts) (sym c.tasks-task-items.ensures.exact) c.tasks-task-items.ensures.limits.each_task in
    program_is_there _ c.tasks-task-items.result.now c.loop-task.task-index _ all c.loop-task-test.true

-- Tasks, as the program has them and as the model does.
use Rattle.std.proofs.Common.{◌≡◌, ℕ, nat_lt, Bool, List, map, length, sym, ap, ◌∙◌}
use Rattle.std.specs.List.{list_all}
use Rattle.std.proofs.lemmas.List.{length-map}
use Rattle.std.proofs.lemmas.List.Folds.{list_all-map}
use Rattle.nv_base.specs.declared.lines.Spawn as base_spawn
use Rattle.kernel_model.specs.Effects.{Spawn}
use Rattle.set_model.specs.Sets.{TaskSet}
use Rattle.task_set.specs.FirstBroken.{task_programs_hold}
use Rattle.set_model.specs.Views.{spawn_of}

programs_alike : (n : ℕ) (tasks : List base_spawn.Spawn) → list_all {X = Spawn} (λ t. nat_lt t.program n) (map spawn_of tasks) ≡ list_all (λ t. nat_lt t.program.0 n) tasks
programs_alike n tasks = list_all-map (λ t. nat_lt t.program n) spawn_of tasks

pub tasks_name_programs : (b : Bool) (set : TaskSet) (tasks : List base_spawn.Spawn) (n : ℕ) → b ≡ list_all (λ t. nat_lt t.program.0 n) tasks → map spawn_of tasks ≡ set.tasks → n ≡ length set.programs
    → b ≡ task_programs_hold set
unfolding task_programs_hold
tasks_name_programs b set tasks n e f g = rw (← f, ← g) (e ∙ sym (programs_alike n tasks))

pub same_number : (set : TaskSet) (tasks : List base_spawn.Spawn) → map spawn_of tasks ≡ set.tasks → length tasks ≡ length set.tasks
same_number set tasks e = sym (length-map tasks spawn_of) ∙ ap (λ (ts : List Spawn). length ts) e

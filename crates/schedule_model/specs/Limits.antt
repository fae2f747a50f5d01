-- The limits of a schedule, and how many steps it has. This project's own.
use Rattle.std.specs.Prelude.{ℕ, ◌+◌, ◌*◌, ◌<◌, ◌≤◌, List, [], ◌∷◌, length}
use Rattle.std.specs.List.{AllByRecursion}
use Rattle.nv_base.specs.declared.limits.TheConstants.{MAX_CORES, MAX_EVENTS}
use Rattle.schedule_model.specs.Schedules.{StepItem, Steps, Mix, Schedule}

-- how many steps an item stands for
abbrev pub step_count : StepItem → ℕ
step_count (Steps order times) = length order * times
step_count (Mix seed count) = count

-- how many steps the items stand for together
abbrev pub steps_together : List StepItem → ℕ
steps_together [] = 0
steps_together (item ∷ items) = step_count item + steps_together items

-- an item stands for a step at least, and names only these cores
abbrev pub IsItem : ℕ → StepItem → Type 0
IsItem cores (Steps order times) = (1 ≤ length order) × (1 ≤ times) × AllByRecursion (λ core. core < cores) order
IsItem cores (Mix seed count) = 1 ≤ count

pub record IsSchedule (s : Schedule) : Type 0 where
  pub some_core : 1 ≤ s.cores
  pub few_cores : s.cores ≤ MAX_CORES
  pub proper : AllByRecursion (IsItem s.cores) s.items
  pub short : steps_together s.items + length s.on_times ≤ MAX_EVENTS

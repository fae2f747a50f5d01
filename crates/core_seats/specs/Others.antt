-- What the cores hold, as a start and a verdict ask. This project's own.
use Rattle.std.specs.Prelude.{ℕ, Bool, List, [], ◌∷◌, Option, Some, None, is_some}
use Rattle.std.specs.List.{list_any}
use Rattle.interval.specs.Ranges.{range_of}
use Rattle.slot_model.specs.Tabled.{View, with_view}
use Rattle.vol_copy.specs.declared.attempt.Stage.{Stage}
use Rattle.vol_copy.specs.declared.attempt.Stage.TheVariants as stage
use Rattle.core_seats.specs.declared.seat.Seat.{Seat}
use Rattle.core_seats.specs.declared.seat.Saving.{Saving}

-- the task that a core holds, if it holds one
abbrev pub task_by : (task : ℕ) → Stage → Option ℕ
task_by task stage.Blank = None
task_by task stage.Running = Some task
task_by task (stage.Fetching object want) = Some task
task_by task (stage.Copying object want copied) = Some task
task_by task (stage.Ready outcome) = Some task

abbrev pub task_in : Seat → Option ℕ
task_in s = task_by s.attempt.task.0 s.attempt.stage

abbrev pub with_task : Option ℕ → List ℕ → List ℕ
with_task None tasks = tasks
with_task (Some task) tasks = task ∷ tasks

-- the tasks that some cores hold, in their order
abbrev pub tasks_in : List Seat → List ℕ
tasks_in [] = []
tasks_in (s ∷ seats) = with_task (task_in s) (tasks_in seats)

-- what is kept of a core's try by its stage, if it has one
abbrev pub view_at : Seat → Stage → Option View
view_at s stage.Blank = None
view_at s stage.Running = Some (record { interval = range_of s.reads; copying = None })
view_at s (stage.Fetching object want) = Some (record { interval = range_of s.reads; copying = None })
view_at s (stage.Copying object want copied) =
    Some (record { interval = range_of s.reads; copying = Some (record { object = object.0; slot = s.slot }) })
view_at s (stage.Ready outcome) = Some (record { interval = range_of s.reads; copying = None })

-- unless a finish of it commits
abbrev pub view_by : Seat → Option Saving → Option View
view_by s None = view_at s s.attempt.stage
view_by s (Some v) = None

abbrev pub view_in : Seat → Option View
view_in s = view_by s s.saving

-- of the tries of some cores, in their order
abbrev pub views_in : List Seat → List View
views_in [] = []
views_in (s ∷ seats) = with_view (view_in s) (views_in seats)

-- whether a finish commits
abbrev pub saves_in : List Seat → Bool
saves_in seats = list_any (λ s. is_some s.saving) seats

-- what there is, as a list
abbrev pub listed_if : {A : Type 0} → Option A → List A
listed_if None = []
listed_if (Some x) = x ∷ []

-- The open tasks as a queue keeps them, and what a finish makes of them. This project's own.
use Rattle.std.specs.Prelude.{◌≡◌, ℕ, ◌+◌, ◌-◌, ◌<◌, ◌≤◌, ◌==◌, nat_le, Bool, not, List, ◌++◌, Option, find, length, map}
use Rattle.std.specs.List.{AllByRecursion, list_any}
use Rattle.kernel_model.specs.Effects.{Spawn}
use Rattle.kernel_model.specs.Replay.{TaskRec}
use Rattle.kernel_model.specs.OpenTasks.{children, others_than}
use Rattle.kernel_model.specs.Serial.{InIdOrder}
use Rattle.nv_base.specs.declared.lines.TaskRec as base
use Rattle.set_model.specs.Views.{task_of}

-- the open tasks by id, the id of the next one, and how many there may be
pub record Queued : Type 0 where
  pub tasks : List TaskRec
  pub next : ℕ
  pub records : ℕ

-- ids increase, from 1 on and below the next one, and there are no more tasks than records
pub record IsQueued (q : Queued) : Type 0 where
  pub in_order : InIdOrder q.tasks
  pub given : AllByRecursion (λ t. (0 < t.id) × (t.id < q.next)) q.tasks
  pub few : length q.tasks ≤ q.records

-- a queue of these tasks
abbrev pub queue_of : List base.TaskRec → (next records : ℕ) → Queued
queue_of tasks next records = record { tasks = map task_of tasks; next = next; records = records }

-- whether a task is among those that are held
abbrev pub is_held : List ℕ → (task : ℕ) → Bool
is_held held task = list_any (λ id. id == task) held

-- the least open task that is not held
abbrev pub next_ready : List ℕ → List TaskRec → Option TaskRec
next_ready held tasks = find (λ t. not (is_held held t.id)) tasks

-- whether so many children would find records, once their parent is gone
abbrev pub has_room : ℕ → Queued → Bool
has_room spawns q = nat_le (length q.tasks - 1 + spawns) q.records

-- the queue after the finish of a task with these children
abbrev pub after_finish : (task : ℕ) → List Spawn → Queued → Queued
after_finish task spawns q = record {
  tasks = others_than task q.tasks ++ children q.next spawns;
  next = q.next + length spawns;
  records = q.records;
}

-- The state after a finish, and which finishes may follow a state. This project's own.
use Rattle.std.specs.Prelude.{◌≡◌, ◌≢◌, ℕ, ◌+◌, ◌<◌, ◌≤◌, Bool, true, List, [], ◌∷◌, length, map, slice_index, Some, None, if◌then◌else◌}
use Rattle.object_sets.specs.ObjectSets.{is_among}
use Rattle.nv_base.specs.declared.lines.Spawn as base_spawn
use Rattle.kernel_model.specs.Effects.{Spawn, Write, written}
use Rattle.kernel_model.specs.Items.{FinishRecord, entry_of}
use Rattle.kernel_model.specs.OpenTasks.{others_than}
use Rattle.kernel_model.specs.Replay.{task_under}
use Rattle.kernel_model.specs.Fit.{IsRun}
use Rattle.set_model.specs.Sets.{TaskSet, object_at}
use Rattle.set_model.specs.Numbers.{sizes_of}
use Rattle.set_model.specs.Views.{spawn_of}
use Rattle.set_model.specs.Views as views
use Rattle.device_model.specs.IndexWords.{Index}
use Rattle.device_model.specs.Commits.{index_after, writes_by}
use Rattle.shadow_index.specs.declared.plan.Plan.{Plan}
use Rattle.shadow_index.specs.declared.state.State.{State}
use Rattle.shadow_index.specs.States.{index_of}

-- the slot of each object from number o on: the new one of a written object, and else the one before
abbrev pub slots_after : (ℕ → Bool) → (new : List ℕ) → (o : ℕ) → (before : List ℕ) → List ℕ
slots_after is_written new o [] = []
slots_after is_written new o (slot ∷ slots) =
    (if is_written o then slice_index new o else slot) ∷ slots_after is_written new (o + 1) slots

-- the slots after a plan
abbrev pub planned_slots : Plan → (before : List ℕ) → List ℕ
planned_slots plan before = slots_after (λ o. is_among o plan.written) plan.slots 0 before

-- a finish is the one that a plan grants, with these spawns
pub record IsGranted (plan : Plan) (spawns : List base_spawn.Spawn) (i : FinishRecord) : Type 0 where
  pub entry : entry_of i ≡ views.entry_of plan.granted
  pub spawned : i.run.spawns ≡ map spawn_of spawns

-- the index of a state is the one after a plan's finish
abbrev pub IsAfter : Plan → (before : State) → FinishRecord → (after : State) → Type 0
IsAfter plan before i after =
    index_of after ≡ index_after (index_of before) i (planned_slots plan before.slots.items)

-- a finish may follow an index: its task is open, its number is the next one, its point is at most that, and there are records for its children
pub record IsNextFinish (set : TaskSet) (x : Index) (i : FinishRecord) : Type 0 where
  pub run : IsRun (sizes_of set) i.run
  pub task : Spawn
  pub open_ : task_under x.tasks i.task ≡ Some task
  pub number : i.number ≡ x.number + 1
  pub point : i.point ≤ x.number + 1
  pub first : i.first ≡ x.next
  pub records : length (others_than i.task x.tasks) + length i.run.spawns ≤ set.records

-- slots that may follow: an object that is written is in another one of its slots, and each other object where it was
pub record AreNextSlots (set : TaskSet) (writes : List Write) (before after : List ℕ) : Type 0 where
  pub long : length after ≡ length set.objects
  pub named : (o : ℕ) (words : List ℕ) → o < length set.objects → written writes o ≡ Some words
      → slice_index after o < (object_at set o).slots
  pub other : (o : ℕ) (words : List ℕ) → o < length set.objects → written writes o ≡ Some words
      → slice_index after o ≢ slice_index before o
  pub same : (o : ℕ) → o < length set.objects → written writes o ≡ None
      → slice_index after o ≡ slice_index before o

-- a plan may follow an index: its finish may, with the words of these copies, and each object that it writes gets another one of its slots
pub record IsPlanned (set : TaskSet) (plan : Plan) (x : Index) (i : FinishRecord)
    (is_written : ℕ → Bool) (words : ℕ → List ℕ) : Type 0 where
  pub finish : IsNextFinish set x i
  pub writes : i.run.writes ≡ writes_by is_written words 0 (length set.objects)
  pub written : (o : ℕ) → o < length set.objects → is_written o ≡ is_among o plan.written
  pub named : (o : ℕ) → o < length set.objects → is_written o ≡ true
      → slice_index plan.slots o < (object_at set o).slots
  pub other : (o : ℕ) → o < length set.objects → is_written o ≡ true
      → slice_index plan.slots o ≢ slice_index x.slots o

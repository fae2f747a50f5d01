-- What a kernel keeps of the finishes that have joined, and when one more may. This project's own.
use Rattle.std.specs.Prelude.{◌≡◌, ◌≢◌, ℕ, ◌+◌, ◌++◌, ◌<◌, ◌≤◌, true, is_some, List, None, length, map, slice_index}
use Rattle.object_sets.specs.ObjectSets.{is_among}
use Rattle.nv_base.specs.declared.limits.TheConstants.{MAX_SPAWNS}
use Rattle.nv_base.specs.declared.lines.Spawn as base_spawn
use Rattle.kernel_model.specs.Effects.{written}
use Rattle.kernel_model.specs.Items.{FinishRecord}
use Rattle.kernel_model.specs.OpenTasks.{children, others_than}
use Rattle.kernel_model.specs.Replay.{max_id, task_under}
use Rattle.set_model.specs.Sets.{TaskSet}
use Rattle.set_model.specs.Limits.{IsTaskSet}
use Rattle.set_model.specs.Views.{spawn_of}
use Rattle.device_model.specs.IndexWords.{Index, IsIndex}
use Rattle.shadow_index.specs.States.{HasRoom, index_of}
use Rattle.task_queue.specs.Queues.{Queued, has_room}
use Rattle.table_machine.specs.Tables.{Chain}
use Rattle.ver_table.specs.Chains.{chain_at}
use Rattle.ver_table.specs.Tabled.{all_tabled}
use Rattle.committed_state.specs.Joining.{IsFreeAt}
use Rattle.committed_state.specs.declared.joining.Joining.{Joining}
use Rattle.committed_state.specs.declared.committed.Committed.{Committed}

-- the versions of each object, as the kernel over tables has them
abbrev pub chains_in : Committed → List Chain
chains_in c = all_tabled c.versions

-- the open tasks of an index, as a queue has them
abbrev pub queue_in : (records : ℕ) → Index → Queued
queue_in records x = record { tasks = x.tasks; next = x.next; records = records }

-- there is room for a set
pub record HasRooms (set : TaskSet) (c : Committed) : Type 0 where
  pub limits : IsTaskSet set
  pub state : HasRoom set c.state
  pub after : HasRoom set c.after
  pub slots : map (λ v. v.slots) c.versions ≡ map (λ p. p.slots) set.objects
  pub records : c.queue.records ≡ set.records

-- the state is one that a device of the set may hold, and the open tasks are those of the state
pub record IsCommitted (set : TaskSet) (c : Committed) : Type 0 where
  pub rooms : HasRooms set c
  pub index : IsIndex set (index_of c.state)
  pub queue : c.queue ≡ queue_in set.records (index_of c.state)

-- the finish has this task and this point, and its run read and wrote these objects
pub record IsFinishOf (j : Joining) (i : FinishRecord) : Type 0 where
  pub task : i.task ≡ j.task.0
  pub point : i.point ≡ j.point.0
  pub reads : i.run.reads ≡ j.reads
  pub writes : (o : ℕ) → is_some (written i.run.writes o) ≡ is_among o j.written

-- a finish may join: its task is open, there are records and ids for its children, the slots that it takes are free, and the state after it stands ready
pub record MayJoin (set : TaskSet) (j : Joining) (spawns : List base_spawn.Spawn) (c : Committed) : Type 0 where
  pub open_ : task_under (index_of c.state).tasks j.task.0 ≢ None
  pub few : length spawns ≤ MAX_SPAWNS
  pub records : has_room (length spawns) c.queue ≡ true
  pub ids : c.state.next.0 + length spawns ≤ max_id
  pub free : (o : ℕ) → o < length set.objects → is_among o j.written ≡ true
      → IsFreeAt (slice_index c.after.slots.items o) j.point.0 (chain_at c.versions o)
  pub after : IsIndex set (index_of c.after)
  pub next : (index_of c.after).next ≡ c.state.next.0 + length spawns
  pub tasks : (index_of c.after).tasks
      ≡ others_than j.task.0 (index_of c.state).tasks ++ children c.state.next.0 (map spawn_of spawns)

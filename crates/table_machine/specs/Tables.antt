-- What the kernel keeps in memory: plain numbers and lists, and no history. This project's own.
use Rattle.std.specs.Prelude.{ℕ, zero, suc, ◌+◌, List, [], ◌∷◌, Option, get_or}
use Rattle.kernel_model.specs.Sizes.{Sizes}
use Rattle.kernel_model.specs.Effects.{Outcome, Spawn, Write}
use Rattle.kernel_model.specs.Runs.{TaskMachine}
use Rattle.kernel_model.specs.Items.{FinishRecord, Entry}
use Rattle.kernel_model.specs.Replay.{DeviceState}
use Rattle.kernel_model.specs.Worlds.{World}
use Rattle.kernel_model.specs.Intervals.{Interval}
use Rattle.kernel_model.specs.Events.{Power}
use Rattle.slot_model.specs.Tabled.{Place}
use Rattle.set_model.specs.Sets.{TaskSet}
use Rattle.device_model.specs.Layouts.{Layout}
use Rattle.device_model.specs.IndexWords.{Index}
use Rattle.device_model.specs.Counting.{sizes_on}

-- what never changes: the machine of the tasks, their set, and how the set lies on the device
pub record Setting (M : Type 0) : Type 0 where
  pub steps : TaskMachine M
  pub set : TaskSet
  pub layout : Layout

-- the numbers that the event machine needs of it
abbrev pub sizes_in : {M : Type 0} → Setting M → Sizes
sizes_in x = sizes_on x.layout x.set

-- what stays, where the history begins over this base
abbrev pub world_in : {M : Type 0} → Setting M → DeviceState → World M
world_in x base = record { steps = x.steps; sizes = sizes_in x; base = base }

-- an object: the greatest point that read or wrote it, and its versions by their slots, newest first
pub record Chain : Type 0 where
  pub bound : ℕ
  pub places : List Place

-- an object that was read, and its words as far as they are copied
pub record Copy : Type 0 where
  pub object : ℕ
  pub words : List ℕ

-- one try of a task
pub record Try (M : Type 0) : Type 0 where
  pub task : ℕ
  pub interval : Interval  -- of its reads
  pub copies : List Copy  -- newest first
  pub writes : List Write  -- in order of the objects
  pub spawns : List Spawn  -- in the order of the spawns
  pub state : M

-- what the kernel keeps of a core
pub data Seat (M : Type 0) : Type 0 where
  Vacant : Seat M
  Runs : Try M → Seat M
  Copies : Try M → (slot : ℕ) → Seat M  -- to its newest copy, word by word, from this slot
  Waits : Try M → Outcome → Seat M  -- for a verdict
  Saves : FinishRecord → (after : Index) → (left : ℕ) → Seat M  -- a finish, with the index after it and so many writes left

-- all that the kernel keeps. In a boot the last three are blank
pub record Tables (M : Type 0) : Type 0 where
  pub power : Power
  pub boots : ℕ
  pub owed : Option Entry  -- a finish that a failure hid
  pub entries : List Entry  -- of all finishes that have joined, in order
  pub seats : List (Seat M)
  pub index : Index  -- clock, number, next id, last finish, the slot of each object's newest version, open tasks
  pub root : ℕ  -- which copies of the index are current
  pub chains : List Chain  -- of each object

-- for each of n numbers, from number o on
abbrev pub each_from : {A : Type 0} → ℕ → ℕ → (ℕ → A) → List A
each_from o zero f = []
each_from o (suc n) f = f o ∷ each_from (o + 1) n f

-- what is kept of an object
abbrev pub chain_at : List Chain → ℕ → Chain
chain_at chains o = get_or chains o (record { bound = 0; places = [] })

-- A moment of a run with all that is kept and stands beside its state, and what the laws say of it in few words. This project's own.
use Rattle.std.specs.Prelude.{◌≡◌, ℕ, ◌-◌, ◌<◌, List, set, Option, get_or, take}
use Rattle.kernel_model.specs.Sizes.{Sizes}
use Rattle.kernel_model.specs.Effects.{object_words}
use Rattle.kernel_model.specs.Items.{FinishRecord}
use Rattle.kernel_model.specs.Replay.{DeviceState, clock_of}
use Rattle.kernel_model.specs.Worlds.{World}
use Rattle.kernel_model.specs.Versions.{Read, Version, versions}
use Rattle.kernel_model.specs.Intervals.{Interval, read_interval}
use Rattle.kernel_model.specs.Cores.{Core, Idle, all_but}
use Rattle.kernel_model.specs.Room.{interval_of}
use Rattle.kernel_model.specs.Turns.{commit_writes, core_turn}
use Rattle.kernel_model.specs.Events.{State, Event, CoreStep, event_step}
use Rattle.kernel_model.specs.Execution.{Execution, start_of, state_at}
use Rattle.kernel_model.specs.Durable.{listed, state_left}
use Rattle.slot_model.specs.Slots.{Image}
use Rattle.slot_model.specs.Kept.{Kept, newest_slot}
use Rattle.slot_model.specs.Places.{free_slot, planned}
use Rattle.slot_model.specs.Store.{after_write, late_writes, target}
use Rattle.slot_model.specs.Changes.{Beside, afresh, beside_after, floor_after, image_after, kept_after, named_slot}
use Rattle.slot_model.specs.Standing.{IsLawful, IsNamed, IsTabled, StandsFor}
use Rattle.slot_model.specs.Tabled.{AreTables, Tables, View, fresh_tables, view_of, views_of}

-- the machine of the tasks, the numbers and the base, which stay; the state; and what is beside it
pub record Moment (M : Type 0) : Type 0 where
  pub world : World M
  pub floor : ℕ  -- the clock at the last boot
  pub state : State M
  pub kept : Kept
  pub image : Image

-- ---- what is true of it

-- what must be true of the state
abbrev pub IsLawfulIn : {M : Type 0} → Moment M → Type 0
IsLawfulIn m = IsLawful m.world m.state

-- what must stand in slots does
abbrev pub StandsIn : {M : Type 0} → Moment M → Type 0
StandsIn m = StandsFor m.world.sizes m.world.base m.floor m.state m.kept m.image

-- both
pub record IsStanding {M : Type 0} (m : Moment M) : Type 0 where
  pub lawful : IsLawful m.world m.state
  pub stands : StandsFor m.world.sizes m.world.base m.floor m.state m.kept m.image

-- these tables are those of the moment
abbrev pub AreTablesIn : {M : Type 0} → Moment M → Tables → Type 0
AreTablesIn m t = AreTables m.world.sizes m.world.base m.floor m.state.history m.kept t

-- so are these tables and views, and what must stand does
abbrev pub IsTabledIn : {M : Type 0} → Moment M → Tables → (ℕ → Option View) → Type 0
IsTabledIn m t views = IsTabled m.world.sizes m.world.base m.floor m.state m.kept m.image t views

-- the slot that the durable index names of an object has its durable words
abbrev pub IsNamedIn : {M : Type 0} → Moment M → ℕ → Type 0
IsNamedIn m o = IsNamed m.world.sizes m.world.base m.state m.kept m.image o

-- the slots that are named at first have the base's objects
abbrev pub HoldBase : Sizes → DeviceState → (named : ℕ → ℕ) → Image → Type 0
HoldBase sizes base named image =
    (o : ℕ) → o < sizes.objects → (named o < sizes.slots o)
    × (image o (named o) ≡ object_words base.objects o)

-- ---- what there is at it

-- core n
abbrev pub core_in : {M : Type 0} → Moment M → ℕ → Core M
core_in m n = get_or m.state.cores n Idle

-- all but core n
abbrev pub others_in : {M : Type 0} → Moment M → ℕ → List (Core M)
others_in m n = all_but n m.state.cores

-- what core n, which is this now, does next
abbrev pub next_core : {M : Type 0} → Moment M → ℕ → Core M → Core M
next_core m n c = (core_turn m.world m.state.history (others_in m n) n c).core

-- the interval of core n's attempt, if it has one
abbrev pub interval_in : {M : Type 0} → Moment M → ℕ → Option Interval
interval_in m n = interval_of m.world.base m.state.history (core_in m n)

-- the interval of some reads of an attempt that started at a point
abbrev pub reads_in : {M : Type 0} → Moment M → (start : ℕ) → List Read → Interval
reads_in m start reads = read_interval m.world.base m.state.history start reads

-- the versions of an object, newest first
abbrev pub all_versions : {M : Type 0} → Moment M → ℕ → List Version
all_versions m o = versions m.world.base o m.state.history

-- the slot of an object's newest version
abbrev pub newest_in : {M : Type 0} → Moment M → ℕ → ℕ
newest_in m o = newest_slot (m.kept.chains o)

-- the slot that the durable index names of an object
abbrev pub named_in : {M : Type 0} → Moment M → ℕ → ℕ
named_in m o = named_slot m.state m.kept o

-- the slot that is free for core n
abbrev pub free_in : {M : Type 0} → Moment M → (n o : ℕ) → Option ℕ
free_in m n o = free_slot m.world.sizes m.world.base m.state.history (others_in m n) m.kept o

-- what is kept once core n is granted
abbrev pub planned_in : {M : Type 0} → Moment M → ℕ → Kept
planned_in m n = planned m.world.sizes m.world.base m.state.history (others_in m n) m.kept

-- the image after the next write of a commit that has so many left
abbrev pub written_in : {M : Type 0} → Moment M → FinishRecord → (left : ℕ) → Image
written_in m i left =
    after_write m.kept.plan
    (target m.world.sizes (commit_writes m.world.sizes m.world.base m.state.history i - left) i.run.writes) m.image

-- how many writes of a commit are beside its objects' words
abbrev pub late_in : {M : Type 0} → Moment M → FinishRecord → ℕ
late_in m i = late_writes m.world.sizes m.world.base m.state.history i

-- what tables keep of core k's attempt
abbrev pub view_in : {M : Type 0} → Moment M → ℕ → Option View
view_in m k = view_of m.world.base m.state.history (m.kept.pins k) (core_in m k)

-- what they keep of the attempts of all but core n
abbrev pub views_in : {M : Type 0} → Moment M → ℕ → List View
views_in m n = views_of m.world.base m.state.history m.kept.pins 0 (set m.state.cores n Idle)

-- the tables that begin with what the durable index says
abbrev pub durable_tables : {M : Type 0} → Moment M → Tables
durable_tables m = fresh_tables (named_slot m.state m.kept) (state_left m.world.base (listed m.state))

-- ---- later moments

-- after an event
abbrev pub after_event : {M : Type 0} → Moment M → Event → Moment M
after_event m e = record m {
  floor = floor_after m.world.base m.floor m.state e;
  state = (event_step m.world m.state e).0;
  kept = kept_after m.world m.state e m.kept;
  image = image_after m.world.sizes m.world.base m.state e m.kept m.image;
}

-- core n has stepped, and nothing has changed beside the state
abbrev pub stepped : {M : Type 0} → Moment M → ℕ → Moment M
stepped m n = record m { state = (event_step m.world m.state (CoreStep n)).0 }

-- all is kept anew, from the clock on
abbrev pub begun_afresh : {M : Type 0} → Moment M → Moment M
begun_afresh m = record m {
  floor = clock_of m.world.base m.state.history;
  kept = afresh (clock_of m.world.base m.state.history) m.kept;
}

-- a state of a run, with this beside it
abbrev pub moment_of : {M : Type 0} → Execution M → Beside → State M → Moment M
moment_of x b s = record {
  world = x.world;
  floor = b.floor;
  state = s;
  kept = b.kept;
  image = b.image;
}

-- the start of a run
abbrev pub moment_first : {M : Type 0} → Execution M → Beside → Moment M
moment_first x first = moment_of x first (start_of x)

-- after n of its events
abbrev pub moment_at : {M : Type 0} → Execution M → Beside → ℕ → Moment M
moment_at x first n =
    moment_of x (beside_after x.world (start_of x) (take n x.events) first)
    (state_at x n)

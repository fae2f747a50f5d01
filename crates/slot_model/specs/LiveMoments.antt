-- A moment of threads' calls with all that is kept and stands beside the state, and what the laws say of it in few words. This project's own.
use Rattle.std.specs.Prelude.{◌≡◌, ◌<◌, ℕ, List, set, Option, None, get_or}
use Rattle.kernel_model.specs.Sizes.{Sizes}
use Rattle.kernel_model.specs.Effects.{Programs, Run, object_words}
use Rattle.kernel_model.specs.Items.{FinishRecord}
use Rattle.kernel_model.specs.Replay.{DeviceState}
use Rattle.kernel_model.specs.Cores.{Core, all_but}
use Rattle.kernel_model.specs.Durable.{state_left}
use Rattle.kernel_model.specs.Intervals.{Interval, read_interval}
use Rattle.kernel_model.specs.Turns.{commit_writes}
use Rattle.kernel_model.specs.Versions.{Version, versions}
use Rattle.kernel_model.specs.Live.{Answer, CallState, Mark, cores_of, finish_call}
use Rattle.slot_model.specs.Slots.{Image}
use Rattle.slot_model.specs.Kept.{Kept, newest_slot}
use Rattle.slot_model.specs.Places.{free_slot}
use Rattle.slot_model.specs.Store.{late_writes}
use Rattle.slot_model.specs.LiveStanding.{IsLiveLawful, LiveCommits, LiveStands}
use Rattle.slot_model.specs.Tabled.{AreTables, Tables, View, views_of}

-- the programs, the numbers and the base, which stay; the state of the calls; and what is beside it
pub record LiveMoment : Type 0 where
  pub whole : Programs
  pub sizes : Sizes
  pub base : DeviceState
  pub state : CallState
  pub kept : Kept
  pub image : Image

-- ---- what is true of it

-- what must stand in slots does, between calls
abbrev pub StandsLive : LiveMoment → Type 0
StandsLive m = LiveStands m.sizes m.base m.state m.kept m.image

-- caller n's finish is under way, with so many writes left, and what must stand does
abbrev pub CommitsLive : LiveMoment → (n : ℕ) → FinishRecord → (left : ℕ) → Type 0
CommitsLive m n i left = LiveCommits m.whole m.sizes m.base m.state n i left m.kept m.image

-- between calls, in a lawful state
pub record IsLiveStanding (m : LiveMoment) : Type 0 where
  pub lawful : IsLiveLawful m.whole m.sizes m.base m.state
  pub stands : LiveStands m.sizes m.base m.state m.kept m.image

-- within a finish, in a lawful state
pub record IsLiveCommitting (m : LiveMoment) (n : ℕ) (i : FinishRecord) (left : ℕ) : Type 0 where
  pub lawful : IsLiveLawful m.whole m.sizes m.base m.state
  pub commits : LiveCommits m.whole m.sizes m.base m.state n i left m.kept m.image

-- these tables are those of the moment
abbrev pub AreLiveTables : LiveMoment → Tables → Type 0
AreLiveTables m t = AreTables m.sizes m.base m.base.clock m.state.history m.kept t

-- a slot has what a listing leaves of an object
abbrev pub HoldsLeft : LiveMoment → List FinishRecord → (o slot : ℕ) → Type 0
HoldsLeft m history o slot =
    (slot < m.sizes.slots o) × (m.image o slot ≡ object_words (state_left m.base history).objects o)

-- ---- what there is at it

-- caller n's task and what it has read, if it has one
abbrev pub mark_in : LiveMoment → ℕ → Option Mark
mark_in m n = get_or m.state.marks n None

-- all callers but n
abbrev pub other_callers : LiveMoment → ℕ → List (Core (Unit {0}))
other_callers m n = all_but n (cores_of m.state.marks)

-- what is kept of their attempts
abbrev pub caller_views : LiveMoment → ℕ → List View
caller_views m n =
    views_of m.base m.state.history m.kept.pins 0 (cores_of (set m.state.marks n None))

-- the interval of what a task has read
abbrev pub mark_interval : LiveMoment → Mark → Interval
mark_interval m k = read_interval m.base m.state.history k.start k.reads

-- the versions of an object, newest first
abbrev pub live_versions : LiveMoment → ℕ → List Version
live_versions m o = versions m.base o m.state.history

-- the slot that is free for caller n
abbrev pub live_free : LiveMoment → (n o : ℕ) → Option ℕ
live_free m n o = free_slot m.sizes m.base m.state.history (other_callers m n) m.kept o

-- the slot of an object's newest version
abbrev pub live_newest : LiveMoment → ℕ → ℕ
live_newest m o = newest_slot (m.kept.chains o)

-- how many writes a commit has
abbrev pub live_writes : LiveMoment → FinishRecord → ℕ
live_writes m i = commit_writes m.sizes m.base m.state.history i

-- how many of them are beside its objects' words
abbrev pub live_late : LiveMoment → FinishRecord → ℕ
live_late m i = late_writes m.sizes m.base m.state.history i

-- the state after caller n's finish of a run, and its answer
abbrev pub finished : LiveMoment → (n : ℕ) → Mark → Run → (device : Option ℕ) → CallState × Answer
finished m n k run device = finish_call m.sizes m.base m.state n k run m.state.loss device

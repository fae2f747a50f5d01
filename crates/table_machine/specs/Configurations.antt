-- Tables and words beside a state of the event machine, as the laws speak of them. This project's own.
use Rattle.std.specs.Prelude.{◌≡◌, ℕ, ◌+◌, ◌≤◌, List, length, get_or, take, Option}
use Rattle.kernel_model.specs.Items.{Entry}
use Rattle.kernel_model.specs.Replay.{DeviceState, max_id, next_id}
use Rattle.kernel_model.specs.Cores.{Core, Idle}
use Rattle.kernel_model.specs.Events.{State, Event, CoreStep, event_step, state_after}
use Rattle.kernel_model.specs.Durable.{Durable, durable, writes_after}
use Rattle.kernel_model.specs.Fit.{HasIds}
use Rattle.slot_model.specs.Standing.{IsLawful, StandsFor}
use Rattle.device_model.specs.Words.{Words, made}
use Rattle.device_model.specs.Decoding.{Held, durable_of}
use Rattle.device_model.specs.Keeping.{KeepsIn}
use Rattle.table_machine.specs.Tables.{Setting, Tables, sizes_in, world_in}
use Rattle.table_machine.specs.Events.{Answer, Course, course, table_step}
use Rattle.table_machine.specs.Represents.{Ghost, IsFitting, Represents, slots_in}
use Rattle.table_machine.specs.Simulates.{Follows, IsSetting, Simulates, ghost_after}

-- a kernel on its device, beside a state of the event machine over the base where the history begins
pub record Configuration (M : Type 0) : Type 0 where
  pub setting : Setting M
  pub base : DeviceState
  pub last : Option Entry  -- the last finish before the base
  pub tables : Tables M
  pub words : Words
  pub state : State M

-- tables and words stand for the state, on a device that is laid out for the set
pub record IsRepresented {M : Type 0} (c : Configuration M) : Type 0 where
  pub setting : IsSetting c.setting
  pub represents : Represents c.setting c.base c.last c.tables c.words c.state

-- what the tables make of an event, and of some events
abbrev pub answer_at : {M : Type 0} → Configuration M → Event → Answer M
answer_at c e = table_step c.setting c.words c.tables e

abbrev pub course_at : {M : Type 0} → Configuration M → List Event → Course M
course_at c events = course c.setting c.words c.tables events

-- the state of the event machine after an event, and after the first n of some events
abbrev pub state_by : {M : Type 0} → Configuration M → Event → State M
state_by c e = (event_step (world_in c.setting c.base) c.state e).0

abbrev pub state_at : {M : Type 0} → Configuration M → List Event → (n : ℕ) → State M
state_at c events n = state_after (world_in c.setting c.base) c.state (take n events)

-- how many device writes the first n of some events make
abbrev pub writes_at : {M : Type 0} → Configuration M → List Event → (n : ℕ) → ℕ
writes_at c events n = writes_after (world_in c.setting c.base) c.state (take n events)

-- the device after k of the writes of some events
abbrev pub image_at : {M : Type 0} → Configuration M → List Event → (k : ℕ) → Words
image_at c events k = made (take k (course_at c events).log) c.words

-- there are ids for the children of the finish that an event joins, if one does; and for those of all finishes that some events can join
abbrev pub HasIdsBy : {M : Type 0} → Configuration M → Event → Type 0
HasIdsBy c e = next_id c.base (state_by c e).history ≤ max_id

abbrev pub HasIdsFor : {M : Type 0} → Configuration M → List Event → Type 0
HasIdsFor c events = HasIds c.base (length c.state.history + length events)

-- one event of the tables is one of the event machine
abbrev pub SimulatesAt : {M : Type 0} → Configuration M → Event → Type 0
SimulatesAt c e = Simulates c.setting c.base c.last c.tables c.words c.state e

-- what is durable in a state over the configuration's base
abbrev pub durable_in : {M : Type 0} → Configuration M → State M → Durable
durable_in c s = durable c.base c.last s

-- words that keep what is durable in a state
pub record Holds {M : Type 0} (c : Configuration M) (words : Words) (s : State M) : Type 0 where
  pub held : Held
  pub keeps : KeepsIn c.setting.set c.setting.layout held words
  pub is_durable : durable_of held ≡ durable_in c s

-- one moment of the event machine, with what stands beside its state: the tables are a function of both
pub record Moment (M : Type 0) : Type 0 where
  pub setting : Setting M
  pub base : DeviceState
  pub last : Option Entry
  pub ghost : Ghost
  pub words : Words
  pub state : State M

-- what must be true of it
pub record IsMoment {M : Type 0} (m : Moment M) : Type 0 where
  pub setting : IsSetting m.setting
  pub lawful : IsLawful (world_in m.setting m.base) m.state
  pub slots : StandsFor (sizes_in m.setting) m.base m.ghost.floor m.state m.ghost.kept (slots_in m.setting m.words)

-- core n
abbrev pub core_at : {M : Type 0} → Moment M → (n : ℕ) → Core M
core_at m n = get_or m.state.cores n Idle

-- what core n has written is whole objects, and it copies fewer words than its object has
abbrev pub IsFittingAt : {M : Type 0} → Moment M → (n : ℕ) → Type 0
IsFittingAt m n = IsFitting m.setting.steps (sizes_in m.setting) (core_at m n)

-- the tables follow an event, where this stands beside the state after it
abbrev pub FollowsTo : {M : Type 0} → Moment M → Event → (after : Ghost) → Type 0
FollowsTo m e after = Follows m.setting m.base m.last m.ghost m.words m.state e after

-- the tables follow a step of core n
abbrev pub FollowsCore : {M : Type 0} → Moment M → (n : ℕ) → Type 0
FollowsCore m n = FollowsTo m (CoreStep n) (ghost_after m.setting m.base m.last m.ghost m.state (CoreStep n))

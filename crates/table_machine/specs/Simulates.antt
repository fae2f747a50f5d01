-- What it means that the machine over tables and device words does what the event machine does. This project's own.
use Rattle.std.specs.Prelude.{◌≡◌, ℕ, suc, ◌+◌, ◌≤◌, List, [], length, replicate, get_or, set, Option, Some, None}
use Rattle.kernel_model.specs.Items.{FinishRecord, Entry}
use Rattle.kernel_model.specs.Replay.{DeviceState, clock_of, max_id}
use Rattle.kernel_model.specs.Events.{Power, On, Boot, State, Event, CoreStep, event_step, lines_of, state_after}
use Rattle.kernel_model.specs.Chain.{joining}
use Rattle.kernel_model.specs.Durable.{event_writes, writes_after}
use Rattle.slot_model.specs.Changes.{afresh, floor_after, kept_after}
use Rattle.device_model.specs.Words.{Words, made}
use Rattle.device_model.specs.IndexWords.{Index}
use Rattle.device_model.specs.Decoding.{Held}
use Rattle.device_model.specs.Commits.{next_root}
use Rattle.device_model.specs.Places.{IsLaidOut}
use Rattle.set_model.specs.Limits.{IsTaskSet}
use Rattle.kernel_model.specs.Turns.{Line}
use Rattle.kernel_model.specs.Runs.{max_spawns}
use Rattle.table_machine.specs.Tables.{Vacant, Saves, Setting, Tables, world_in}
use Rattle.table_machine.specs.Places.{index_after}
use Rattle.table_machine.specs.Seats.{commit_of}
use Rattle.table_machine.specs.Events.{course, no_index, reopened, table_step}
use Rattle.table_machine.specs.Represents.{Ghost, Represents, held_of, tables_of}

-- what the tables make of an event is what the event machine makes of it: the same line, as many writes, and tables and words that stand for the next state
pub record Simulates {M : Type 0} (x : Setting M) (base : DeviceState) (last : Option Entry) (t : Tables M) (words : Words) (s : State M) (e : Event) : Type 0 where
  pub line : (table_step x words t e).line ≡ (event_step (world_in x base) s e).1
  pub writes : length (table_step x words t e).writes ≡ event_writes s e
  pub state : Represents x base last (table_step x words t e).tables (made (table_step x words t e).writes words) (event_step (world_in x base) s e).0

-- the root once a finish has joined, if one does
abbrev pub root_with : {M : Type 0} → Setting M → Held → (plan : ℕ → ℕ) → Option FinishRecord → ℕ
root_with x h plan None = h.root
root_with x h plan (Some i) = next_root x.layout x.set h (commit_of i (index_after plan h.index i))

-- what neither the tables nor the state have, after an event
abbrev pub ghost_after : {M : Type 0} → Setting M → DeviceState → Option Entry → Ghost → State M → Event → Ghost
ghost_after x base last g s e = record {
  floor = floor_after base g.floor s e;
  kept = kept_after (world_in x base) s e g.kept;
  root = root_with x (held_of x base last g s) g.kept.plan (joining s e);
}

-- the same, after the last turn of a boot: one version an object
abbrev pub fresh_ghost : {M : Type 0} → DeviceState → Ghost → State M → Ghost
fresh_ghost base g s = record { floor = clock_of base s.history; kept = afresh (clock_of base s.history) g.kept; root = g.root }

-- what the tables make of an event, where they are those of a state: the line, as many writes, and the tables of the next state
pub record Follows {M : Type 0} (x : Setting M) (base : DeviceState) (last : Option Entry) (g : Ghost) (words : Words) (s : State M) (e : Event) (after : Ghost) : Type 0 where
  pub line : (table_step x words (tables_of x base last g s) e).line ≡ (event_step (world_in x base) s e).1
  pub writes : length (table_step x words (tables_of x base last g s) e).writes ≡ event_writes s e
  pub tables : (table_step x words (tables_of x base last g s) e).tables ≡ tables_of x base last after (event_step (world_in x base) s e).0

-- the device is laid out for the set
pub record IsSetting {M : Type 0} (x : Setting M) : Type 0 where
  pub set : IsTaskSet x.set
  pub laid_out : IsLaidOut x.set x.layout

-- some events, one after another
pub record IsCourse {M : Type 0} (x : Setting M) (base : DeviceState) (last : Option Entry) (t : Tables M) (words : Words) (s : State M) (events : List Event) : Type 0 where
  pub lines : (course x words t events).lines ≡ lines_of (world_in x base) s events
  pub writes : length (course x words t events).log ≡ writes_after (world_in x base) s events
  pub state : Represents x base last (course x words t events).tables (made (course x words t events).log words) (state_after (world_in x base) s events)

-- the tables of what is held, before the first event: with power on, or in a boot
abbrev pub opened_tables : {M : Type 0} → Setting M → Held → (cores : ℕ) → Power → Tables M
opened_tables x h cores On = record { power = On; boots = h.boots; owed = None; entries = []; seats = replicate cores Vacant; index = h.index; root = h.root; chains = reopened x.set h.index }
opened_tables x h cores (Boot left) = record { power = Boot left; boots = h.boots; owed = None; entries = []; seats = replicate cores Vacant; index = no_index; root = 0; chains = [] }

-- a step of core n writes: its seat saves a finish, and nothing else changes than how many writes are left
pub record IsWrite {M : Type 0} (x : Setting M) (words : Words) (t : Tables M) (n : ℕ) : Type 0 where
  pub item : FinishRecord
  pub after : Index
  pub left : ℕ
  pub seat : get_or t.seats n Vacant ≡ Saves item after (suc left)
  pub tables : (table_step x words t (CoreStep n)).tables ≡ record t { seats = set t.seats n (Saves item after left) }

-- there are ids for the children of one finish more
abbrev pub HasRoom : {M : Type 0} → Tables M → Type 0
HasRoom t = t.power ≡ On → t.index.next + max_spawns ≤ max_id

-- one event, seen from outside: whatever state the tables and words stood for, what they have become stands for its next state, with its line, and so many writes were made
unfoldable pub SimulatesEvent : {M : Type 0} → Setting M → (t : Tables M) → Words → Event → (after : Tables M) → (later : Words) → Line → (writes : ℕ) → Type 0
SimulatesEvent {M} x t words e after later line writes =
    (base : DeviceState) (last : Option Entry) (s : State M) → Represents x base last t words s
    → Represents x base last after later (event_step (world_in x base) s e).0 × (line ≡ (event_step (world_in x base) s e).1) × (writes ≡ event_writes s e)

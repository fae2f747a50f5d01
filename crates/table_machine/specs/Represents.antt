-- Which states of the event machine the tables stand for, over which device. This project's own.
use Rattle.std.specs.Prelude.{◌≡◌, ℕ, zero, suc, ◌+◌, ◌-◌, ◌<◌, ◌≤◌, List, [], ◌∷◌, map, length, take, get_or, Option, Some, None}
use Rattle.std.specs.Option.{option_or}
use Rattle.std.specs.List.{AllByRecursion}
use Rattle.kernel_model.specs.Runs.{TaskMachine}
use Rattle.kernel_model.specs.Items.{FinishRecord, Entry, listing}
use Rattle.kernel_model.specs.Replay.{DeviceState, clock_of, next_id}
use Rattle.kernel_model.specs.Versions.{Read, read_words}
use Rattle.kernel_model.specs.Intervals.{read_interval}
use Rattle.kernel_model.specs.Bounds.{bound_of}
use Rattle.kernel_model.specs.OpenTasks.{open_tasks}
use Rattle.kernel_model.specs.Cores.{Attempt, Core, Idle, Running, Copying, Ready, Committing}
use Rattle.kernel_model.specs.Events.{Power, On, Boot, State}
use Rattle.kernel_model.specs.Sound.{newest_object}
use Rattle.kernel_model.specs.Sizes.{Sizes}
use Rattle.kernel_model.specs.Durable.{state_left, last_of}
use Rattle.kernel_model.specs.Fit.{IsLast, IsWrite}
use Rattle.slot_model.specs.Slots.{Image}
use Rattle.slot_model.specs.Kept.{Kept, newest_slot}
use Rattle.slot_model.specs.Tabled.{places_of}
use Rattle.slot_model.specs.Standing.{IsLawful, StandsFor}
use Rattle.set_model.specs.Sets.{object_at}
use Rattle.device_model.specs.Words.{Words, Change, words_from}
use Rattle.device_model.specs.Layouts.{slot_place}
use Rattle.device_model.specs.IndexWords.{Index}
use Rattle.device_model.specs.Decoding.{Held}
use Rattle.device_model.specs.Commits.{IsUnderWay, commit_writes}
use Rattle.device_model.specs.Keeping.{KeepsIn}
use Rattle.table_machine.specs.Tables.{Chain, Copy, Try, Seat, Vacant, Runs, Copies, Waits, Saves, Setting, Tables, sizes_in, each_from, world_in}
use Rattle.table_machine.specs.Places.{index_after}
use Rattle.table_machine.specs.Seats.{commit_of}
use Rattle.table_machine.specs.Events.{no_index}

-- what neither the tables nor the state have
pub record Ghost : Type 0 where
  pub floor : ℕ  -- the clock at the last boot
  pub kept : Kept  -- the versions in the tables, with their writers and words; the plan; the pins
  pub root : ℕ  -- on the device

-- the index of a history. The slots are those of the newest versions
abbrev pub index_of : {M : Type 0} → Setting M → DeviceState → Option Entry → Kept → List FinishRecord → Index
index_of x base last kept history = record {
  clock = clock_of base history;
  number = base.number + length history;
  next = next_id base history;
  last = last_of last history;
  slots = each_from 0 (length x.set.objects) (λ o. newest_slot (kept.chains o));
  tasks = open_tasks base history;
}

-- what the device holds, but for a commit under way
abbrev pub held_of : {M : Type 0} → Setting M → DeviceState → Option Entry → Ghost → State M → Held
held_of x base last g s = record { index = index_of x base last g.kept s.history; objects = (state_left base s.history).objects; boots = s.boots; root = g.root }

-- the copies of what was read
abbrev pub copies_of : DeviceState → List FinishRecord → List Read → List Copy
copies_of base history reads = map (λ r. record { object = r.object; words = read_words base history r }) reads

-- those of which the newest has so many words
abbrev pub begun_copies : DeviceState → List FinishRecord → (copied : ℕ) → List Read → List Copy
begun_copies base history copied [] = []
begun_copies base history copied (r ∷ reads) = record { object = r.object; words = take copied (read_words base history r) } ∷ copies_of base history reads

-- an attempt with these copies, as the tables have it
abbrev pub try_of : {M : Type 0} → DeviceState → List FinishRecord → Attempt M → List Copy → Try M
try_of base history a copies = record { task = a.task; interval = read_interval base history a.start a.reads; copies = copies; writes = a.writes; spawns = a.spawns; state = a.state }

-- what the tables have of core k
abbrev pub seat_of : {M : Type 0} → DeviceState → List FinishRecord → Kept → Index → ℕ → Core M → Seat M
seat_of base history kept index k Idle = Vacant
seat_of base history kept index k (Running a) = Runs (try_of base history a (copies_of base history a.reads))
seat_of base history kept index k (Copying a copied) = Copies (try_of base history a (begun_copies base history copied a.reads)) (kept.pins k)
seat_of base history kept index k (Ready a outcome) = Waits (try_of base history a (copies_of base history a.reads)) outcome
seat_of base history kept index k (Committing i left) = Saves i (index_after kept.plan index i) left

-- the seats of some cores, each by its number
abbrev pub seats_by : {M : Type 0} → (ℕ → Core M → Seat M) → List (Core M) → List (Seat M)
seats_by f [] = []
seats_by f (c ∷ cores) = f zero c ∷ seats_by (λ k. f (suc k)) cores

-- of all cores
abbrev pub seats_of : {M : Type 0} → DeviceState → List FinishRecord → Kept → Index → List (Core M) → List (Seat M)
seats_of base history kept index cores = seats_by (seat_of base history kept index) cores

-- what the tables have of an object
abbrev pub chain_of : Ghost → List FinishRecord → ℕ → Chain
chain_of g history o = record { bound = bound_of g.floor o history; places = places_of (g.kept.chains o) }

-- of all objects
abbrev pub chains_of : {M : Type 0} → Setting M → Ghost → List FinishRecord → List Chain
chains_of x g history = each_from 0 (length x.set.objects) (chain_of g history)

-- the tables of a state, by its power
abbrev pub tables_on : {M : Type 0} → Setting M → DeviceState → Option Entry → Ghost → State M → Power → Tables M
tables_on x base last g s On =
    let index = index_of x base last g.kept s.history in
    record { power = On; boots = s.boots; owed = s.owed; entries = listing s.history; seats = seats_of base s.history g.kept index s.cores; index = index; root = g.root; chains = chains_of x g s.history }
tables_on x base last g s (Boot left) =
    record { power = Boot left; boots = s.boots; owed = s.owed; entries = listing s.history; seats = seats_of base s.history g.kept no_index s.cores; index = no_index; root = 0; chains = [] }

-- the tables of a state
abbrev pub tables_of : {M : Type 0} → Setting M → DeviceState → Option Entry → Ghost → State M → Tables M
tables_of x base last g s = tables_on x base last g s s.power

-- the finish that commits, with the writes left
abbrev pub commit_by : {M : Type 0} → Core M → Option (FinishRecord × ℕ)
commit_by (Committing i left) = Some (i, left)
commit_by _ = None

abbrev pub commit_in : {M : Type 0} → List (Core M) → Option (FinishRecord × ℕ)
commit_in [] = None
commit_in (c ∷ cores) = option_or (commit_by c) (commit_in cores)

-- the writes of the commit of a finish
abbrev pub writes_of : {M : Type 0} → Setting M → Held → (plan : ℕ → ℕ) → FinishRecord → List Change
writes_of x h plan i = commit_writes x.layout x.set h (commit_of i (index_after plan h.index i))

-- the words keep what is held, or a commit is under way on them with so many writes left
abbrev pub IsOnDevice : {M : Type 0} → Setting M → Held → (plan : ℕ → ℕ) → Option (FinishRecord × ℕ) → Words → Type 0
IsOnDevice x h plan None words = KeepsIn x.set x.layout h words
IsOnDevice x h plan (Some c) words =
    (c.1 ≤ length (writes_of x h plan c.0)) × IsUnderWay x.set x.layout h (commit_of c.0 (index_after plan h.index c.0)) (length (writes_of x h plan c.0) - c.1) words

-- the words in the slots of a device
abbrev pub slots_in : {M : Type 0} → Setting M → Words → Image
slots_in x words o k = words_from words (slot_place x.layout x.set o k) (object_at x.set o).size

-- a read that waits writes as many words as the object has, where it sees as many
abbrev pub IsWaiting : {M : Type 0} → TaskMachine M → Sizes → M → (object : ℕ) → Type 0
IsWaiting steps sizes m o = (words new : List ℕ) → length words ≡ sizes.size o → steps.rewrites m words ≡ Some new → length new ≡ sizes.size o

-- an attempt has written whole objects of the set, and so will its read; fewer words than its object has are copied
abbrev pub IsFitting : {M : Type 0} → TaskMachine M → Sizes → Core M → Type 0
IsFitting steps sizes Idle = Unit {0}
IsFitting steps sizes (Running a) = AllByRecursion (IsWrite sizes) a.writes
IsFitting steps sizes (Copying a copied) = AllByRecursion (IsWrite sizes) a.writes × (copied < sizes.size (newest_object a.reads)) × IsWaiting steps sizes a.state (newest_object a.reads)
IsFitting steps sizes (Ready a outcome) = AllByRecursion (IsWrite sizes) a.writes
IsFitting steps sizes (Committing i left) = Unit {0}

-- tables and words stand for a state of the event machine over a base with this last finish
pub record Agrees {M : Type 0} (x : Setting M) (base : DeviceState) (last : Option Entry) (g : Ghost) (t : Tables M) (words : Words) (s : State M) : Type 0 where
  pub lawful : IsLawful (world_in x base) s
  pub last_fits : IsLast base last
  pub tables : t ≡ tables_of x base last g s
  pub slots : StandsFor (sizes_in x) base g.floor s g.kept (slots_in x words)
  pub device : IsOnDevice x (held_of x base last g s) g.kept.plan (commit_in s.cores) words
  pub fitting : (k : ℕ) → IsFitting x.steps (sizes_in x) (get_or s.cores k Idle)

abbrev pub Represents : {M : Type 0} → Setting M → DeviceState → Option Entry → Tables M → Words → State M → Type 0
Represents x base last t words s = (g : Ghost) × Agrees x base last g t words s

-- The kernel as a machine over tables and device words: what an event makes of the tables, what it writes, and what it prints. This project's own.
use Rattle.std.specs.Prelude.{ℕ, zero, suc, ◌+◌, ◌-◌, ◌==◌, max, List, [], ◌∷◌, ◌++◌, map, Option, Some, None, is_some, if◌then◌else◌, get_or, set, replicate, length, slice_index}
use Rattle.std.specs.List.{list_any}
use Rattle.std.specs.Option.{option_or}
use Rattle.object_sets.specs.ObjectSets.{is_among}
use Rattle.kernel_model.specs.Effects.{written}
use Rattle.kernel_model.specs.Items.{FinishRecord, Entry, entry_of}
use Rattle.kernel_model.specs.Chain.{cut}
use Rattle.kernel_model.specs.Cores.{all_but}
use Rattle.kernel_model.specs.Turns.{Line, Nothing, Failed, Booted}
use Rattle.kernel_model.specs.Events.{Power, On, Boot, Event, CoreStep, Fail, still_owed}
use Rattle.slot_model.specs.Tabled.{installed}
use Rattle.set_model.specs.Sets.{TaskSet}
use Rattle.device_model.specs.Words.{Words, Change, made}
use Rattle.device_model.specs.Layouts.{boot_turns_of}
use Rattle.device_model.specs.IndexWords.{Index, read_index}
use Rattle.device_model.specs.Decoding.{index_in}
use Rattle.device_model.specs.Commits.{next_root}
use Rattle.table_machine.specs.Tables.{Chain, Try, Seat, Vacant, Runs, Copies, Waits, Saves, Setting, Tables, each_from}
use Rattle.table_machine.specs.Seats.{SeatTurn, seat_turn, held_in, commit_of, writes_in}

-- what an event makes of the tables, the words that it writes, and what it prints
pub record Answer (M : Type 0) : Type 0 where
  pub tables : Tables M
  pub writes : List Change  -- one at most
  pub line : Line

-- one version alone, begun at p
abbrev pub one_version : (slot p : ℕ) → Chain
one_version slot p = record { bound = p; places = record { slot = slot; begin = p; end = None } ∷ [] }

-- an object after a finish, which wrote these words to it, if any, and may have read it
abbrev pub touched : FinishRecord → (o slot : ℕ) → Option (List ℕ) → Chain → Chain
touched i o slot (Some words) c = record { bound = i.point; places = installed i.point slot c.places }
touched i o slot None c = if is_among o i.run.reads then record { bound = max i.point c.bound; places = c.places } else c

-- the objects from number o on
abbrev pub all_touched : FinishRecord → (slots : List ℕ) → ℕ → List Chain → List Chain
all_touched i slots o [] = []
all_touched i slots o (c ∷ chains) = touched i o (slice_index slots o) (written i.run.writes o) c ∷ all_touched i slots (o + 1) chains

-- a try that copied what a finish writes can't stand behind it
abbrev pub cut_try : {M : Type 0} → FinishRecord → Try M → Try M
cut_try i a = record a { interval = cut i.point (list_any (λ c. is_some (written i.run.writes c.object)) a.copies) a.interval }

abbrev pub cut_seat : {M : Type 0} → FinishRecord → Seat M → Seat M
cut_seat i Vacant = Vacant
cut_seat i (Runs a) = Runs (cut_try i a)
cut_seat i (Copies a slot) = Copies (cut_try i a) slot
cut_seat i (Waits a outcome) = Waits (cut_try i a) outcome
cut_seat i (Saves j after left) = Saves j after left

-- where a finish joins, if one does
abbrev pub joined : {M : Type 0} → Setting M → Seat M → Tables M → Tables M
joined x (Saves i after zero) t = record {
  power = t.power;
  boots = t.boots;
  owed = t.owed;
  entries = t.entries ++ entry_of i ∷ [];
  seats = map (cut_seat i) t.seats;
  index = after;
  root = next_root x.layout x.set (held_in t) (commit_of i after);
  chains = all_touched i after.slots 0 t.chains;
}
joined x _ t = t

-- the next write of a commit with so many left
abbrev pub next_write : List Change → (left : ℕ) → Change
next_write log left = get_or log (length log - left) (0, 0)

-- the write that a seat makes, if one
abbrev pub written_by : {M : Type 0} → Setting M → Tables M → Seat M → List Change
written_by x t (Saves i after (suc left)) = next_write (writes_in x t i after) (suc left) ∷ []
written_by x t _ = []

-- one step of core n, with power on
abbrev pub core_answer : {M : Type 0} → Setting M → Words → Tables M → ℕ → SeatTurn M → Answer M
core_answer x words t n turn =
    let c = get_or t.seats n Vacant in
    let u = joined x c t in
    record { tables = record u { seats = set u.seats n turn.seat }; writes = written_by x t c; line = turn.line }

-- an index without anything
abbrev pub no_index : Index
no_index = record { clock = 0; number = 0; next = 0; last = None; slots = []; tasks = [] }

-- each object with one version alone, in the slot that an index names
abbrev pub reopened : TaskSet → Index → List Chain
reopened set index = each_from 0 (length set.objects) (λ o. one_version (slice_index index.slots o) index.clock)

-- one turn of a boot: each but the last reads a word. The last one has the whole index, writes the boots, and prints what is owed
abbrev pub boot_answer : {M : Type 0} → Setting M → Words → Tables M → ℕ → Answer M
boot_answer x words t zero = record { tables = t; writes = []; line = Nothing }
boot_answer x words t (suc zero) =
    let index = read_index (length x.set.objects) (index_in x.layout words) in
    record {
      tables = record { power = On; boots = t.boots + 1; owed = None; entries = t.entries; seats = t.seats; index = index; root = words x.layout.root; chains = reopened x.set index };
      writes = (2, t.boots + 1) ∷ [];
      line = Booted t.owed (t.boots + 1);
    }
boot_answer x words t (suc (suc left)) = record { tables = record t { power = Boot (suc left) }; writes = []; line = Nothing }

-- the finish whose writes are all made, and which has not joined
abbrev pub saved_by : {M : Type 0} → Seat M → Option FinishRecord
saved_by (Saves i after zero) = Some i
saved_by _ = None

abbrev pub saved_in : {M : Type 0} → List (Seat M) → Option FinishRecord
saved_in [] = None
saved_in (c ∷ seats) = option_or (saved_by c) (saved_in seats)

-- the entries with that of a finish, if there is one
abbrev pub with_entry : Option FinishRecord → List Entry → List Entry
with_entry None entries = entries
with_entry (Some i) entries = entries ++ entry_of i ∷ []

-- power fails: nothing is left of what is in memory, but what was listed, and that a finish is owed
abbrev pub failed : {M : Type 0} → Setting M → Tables M → Tables M
failed x t = record { power = Boot (boot_turns_of x.layout); boots = t.boots; owed = still_owed (saved_in t.seats) t.owed; entries = with_entry (saved_in t.seats) t.entries; seats = replicate (length t.seats) Vacant; index = no_index; root = 0; chains = [] }

-- one step of core n
abbrev pub step_answer : {M : Type 0} → Setting M → Words → Tables M → ℕ → Power → Answer M
step_answer x words t n On = core_answer x words t n (seat_turn x t words (all_but n t.seats) n (get_or t.seats n Vacant))
step_answer x words t n (Boot left) = if n == 0 then boot_answer x words t left else record { tables = t; writes = []; line = Nothing }

-- the finish that no line has told
abbrev pub untold : {M : Type 0} → Tables M → Option Entry
untold t = still_owed (saved_in t.seats) t.owed

-- what an event makes
abbrev pub table_step : {M : Type 0} → Setting M → Words → Tables M → Event → Answer M
table_step x words t Fail = record { tables = failed x t; writes = []; line = Failed }
table_step x words t (CoreStep n) = step_answer x words t n t.power

-- what some events make, one after another: the tables at the end, all writes, and all lines
pub record Course (M : Type 0) : Type 0 where
  pub tables : Tables M
  pub log : List Change
  pub lines : List Line

abbrev pub course : {M : Type 0} → Setting M → Words → Tables M → List Event → Course M
course x words t [] = record { tables = t; log = []; lines = [] }
course x words t (e ∷ events) =
    let a = table_step x words t e in
    let rest = course x (made a.writes words) a.tables events in
    record { tables = rest.tables; log = a.writes ++ rest.log; lines = a.line ∷ rest.lines }

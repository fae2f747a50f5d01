-- What one step of a core makes of its seat, and what it prints: by the tables, and by a word of the device where it copies. This project's own.
use Rattle.std.specs.Prelude.{ℕ, zero, suc, ◌+◌, ◌==◌, nat_lt, Bool, true, false, List, [], ◌∷◌, ◌++◌, Option, Some, None, unwrap_or, if◌then◌else◌, length, find}
use Rattle.std.specs.List.{list_any}
use Rattle.kernel_model.specs.Effects.{Trap, also_written, written, with_write}
use Rattle.kernel_model.specs.Runs.{Reads, Spawns, Writes, Step, Went, Ends, TaskMachine, max_spawns, spawns_cause}
use Rattle.kernel_model.specs.Items.{FinishRecord, entry_of}
use Rattle.kernel_model.specs.Replay.{TaskRec}
use Rattle.kernel_model.specs.Intervals.{is_empty}
use Rattle.kernel_model.specs.Cores.{is_task}
use Rattle.kernel_model.specs.Verdicts.{Verdict, Granted, Empty, Slots, Records}
use Rattle.kernel_model.specs.Turns.{Line, Nothing, Start, Stale, RefuseEmpty, RefuseSlots, RefuseRecords, Finish}
use Rattle.slot_model.specs.Tabled.{Place, chosen_place, with_place}
use Rattle.set_model.specs.Sets.{object_at}
use Rattle.device_model.specs.Words.{Words, Change}
use Rattle.device_model.specs.Layouts.{slot_place}
use Rattle.device_model.specs.IndexWords.{Index}
use Rattle.device_model.specs.Decoding.{Held}
use Rattle.device_model.specs.Commits.{Commit, commit_writes}
use Rattle.table_machine.specs.Tables.{Chain, Copy, Try, Seat, Vacant, Runs, Copies, Waits, Saves, Setting, Tables, sizes_in}
use Rattle.table_machine.specs.Places.{places_at, run_by, verdict_in, plan_in, index_after}

-- what a step makes of its seat, and what it prints
pub record SeatTurn (M : Type 0) : Type 0 where
  pub seat : Seat M
  pub line : Line

-- a step that prints nothing
abbrev pub still : {M : Type 0} → Seat M → SeatTurn M
still c = record { seat = c; line = Nothing }

-- the task that a seat holds
abbrev pub task_on : {M : Type 0} → Seat M → Option ℕ
task_on Vacant = None
task_on (Runs a) = Some a.task
task_on (Copies a slot) = Some a.task
task_on (Waits a outcome) = Some a.task
task_on (Saves i after left) = Some i.task

-- the least of some open tasks that no seat holds
abbrev pub next_ready : {M : Type 0} → List (Seat M) → List TaskRec → Option TaskRec
next_ready seats [] = None
next_ready seats (t ∷ tasks) = if list_any (λ c. is_task (task_on c) t.id) seats then next_ready seats tasks else Some t

-- Vacant: the try of a task begins at the clock
abbrev pub start_try : {M : Type 0} → TaskMachine M → (clock n : ℕ) → Option TaskRec → SeatTurn M
start_try steps clock n None = still Vacant
start_try steps clock n (Some t) = record {
  seat = Runs (record { task = t.id; interval = record { lo = clock; hi = None }; copies = []; writes = []; spawns = []; state = steps.load t.program t.arg });
  line = Start n t.id clock;
}

-- after a read of an object, of which the try sees these words
abbrev pub given_words : {M : Type 0} → TaskMachine M → Try M → M → ℕ → List ℕ → Try M
given_words steps a m o words = record a { writes = also_written o (steps.rewrites m words) a.writes; state = steps.given m words }

-- the newest copy of an object
abbrev pub copy_of : ℕ → List Copy → Option Copy
copy_of o copies = find (λ c. c.object == o) copies

-- the version counts as read, and its words come next
abbrev pub open_copy : {M : Type 0} → Try M → M → ℕ → Option Place → SeatTurn M
open_copy a m o None = still Vacant  -- one always begins before hi
open_copy a m o (Some p) = still (Copies (record a { interval = with_place p a.interval; copies = record { object = o; words = [] } ∷ a.copies; state = m }) p.slot)

-- an outside read
abbrev pub fetch_version : {M : Type 0} → List Chain → ℕ → Try M → M → ℕ → SeatTurn M
fetch_version chains n a m o =
    if is_empty a.interval then record { seat = Vacant; line = Stale n a.task a.interval.lo (unwrap_or a.interval.hi 0) } else open_copy a m o (chosen_place a.interval.hi (places_at chains o))

-- a read gives the try's own last write, else its earlier copy, else it is an outside read
abbrev pub read_object : {M : Type 0} → TaskMachine M → List Chain → ℕ → Try M → M → ℕ → Option (List ℕ) → Option Copy → SeatTurn M
read_object steps chains n a m o (Some words) copy = still (Runs (given_words steps a m o words))
read_object steps chains n a m o None (Some c) = still (Runs (given_words steps a m o c.words))
read_object steps chains n a m o None None = fetch_version chains n a m o

-- Runs: one step of the machine
abbrev pub run_step : {M : Type 0} → TaskMachine M → List Chain → ℕ → Try M → Step M → SeatTurn M
run_step steps chains n a (Went m) = still (Runs (record a { state = m }))
run_step steps chains n a (Reads m o) = read_object steps chains n a m o (written a.writes o) (copy_of o a.copies)
run_step steps chains n a (Writes m w) = still (Runs (record a { writes = with_write w a.writes; state = m }))
run_step steps chains n a (Spawns m spawn) =
    if nat_lt (length a.spawns) max_spawns then still (Runs (record a { spawns = a.spawns ++ spawn ∷ []; state = steps.spawned m (length a.spawns) }))
    else still (Waits a (Trap spawns_cause))
run_step steps chains n a (Ends outcome) = still (Waits a outcome)

-- Copies: one word, and after the last one the read is done
abbrev pub copy_word : {M : Type 0} → Setting M → Words → Try M → (slot : ℕ) → List Copy → SeatTurn M
copy_word x words a slot [] = still Vacant  -- there is one
copy_word x words a slot (c ∷ copies) =
    let copied = c.words ++ words (slot_place x.layout x.set c.object slot + length c.words) ∷ [] in
    let b = record a { copies = record { object = c.object; words = copied } ∷ copies } in
    if nat_lt (length c.words + 1) (object_at x.set c.object).size then still (Copies b slot) else still (Runs (given_words x.steps b a.state c.object copied))

-- the state on the device, as far as its writers look at it
abbrev pub held_in : {M : Type 0} → Tables M → Held
held_in t = record { index = t.index; objects = []; boots = t.boots; root = t.root }

-- a finish as a commit
abbrev pub commit_of : FinishRecord → Index → Commit
commit_of i after = record { writes = i.run.writes; after = after }

-- its writes
abbrev pub writes_in : {M : Type 0} → Setting M → Tables M → FinishRecord → Index → List Change
writes_in x t i after = commit_writes x.layout x.set (held_in t) (commit_of i after)

-- Waits: as the verdict says
abbrev pub answered : {M : Type 0} → Setting M → Tables M → List (Seat M) → ℕ → ℕ → Verdict → SeatTurn M
answered x t others n task (Granted i) =
    let after = index_after (plan_in (sizes_in x) others t.chains) t.index i in still (Saves i after (length (writes_in x t i after)))
answered x t others n task (Empty lo hi) = record { seat = Vacant; line = RefuseEmpty n task lo hi }
answered x t others n task (Slots o) = record { seat = Vacant; line = RefuseSlots n task o }
answered x t others n task (Records pending spawns) = record { seat = Vacant; line = RefuseRecords n task pending spawns }

-- whether a seat saves a finish
abbrev pub saves : {M : Type 0} → Seat M → Bool
saves (Saves i after left) = true
saves _ = false

-- one step of core n on its seat, where the others are these
abbrev pub seat_turn : {M : Type 0} → Setting M → Tables M → Words → List (Seat M) → ℕ → Seat M → SeatTurn M
seat_turn x t words others n Vacant = start_try x.steps t.index.clock n (next_ready others t.index.tasks)
seat_turn x t words others n (Runs a) = run_step x.steps t.chains n a (x.steps.step a.state)
seat_turn x t words others n (Copies a slot) = copy_word x words a slot a.copies
seat_turn x t words others n (Waits a outcome) =
    if list_any saves others then still (Waits a outcome) else answered x t others n a.task (verdict_in (sizes_in x) t.index t.chains others a (run_by a outcome))
seat_turn x t words others n (Saves i after zero) = record { seat = Vacant; line = Finish (entry_of i) }
seat_turn x t words others n (Saves i after (suc left)) = still (Saves i after left)

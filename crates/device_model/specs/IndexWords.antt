-- The index words of a state, and which words are faulty. This project's own.
use Rattle.std.specs.Prelude.{◌≡◌, ℕ, zero, suc, ◌+◌, ◌-◌, ◌*◌, ◌/◌, ◌%◌, ◌<◌, ◌≤◌, ◌==◌, nat_lt, nat_le, Bool, false, not, ◌||◌, ◌&&◌, List, [], ◌∷◌, ◌++◌, length, slice_index, Option, Some, None, if◌then◌else◌}
use Rattle.std.specs.List.{AllByRecursion}
use Rattle.kernel_model.specs.Effects.{Outcome, Exit, Trap, Objects}
use Rattle.kernel_model.specs.Items.{Entry}
use Rattle.kernel_model.specs.Replay.{TaskRec, DeviceState}
use Rattle.kernel_model.specs.Serial.{InIdOrder}
use Rattle.kernel_model.specs.Fit.{IsLast}
use Rattle.set_model.specs.Sets.{TaskSet, object_at}
use Rattle.device_model.specs.Words.{Words, words_from}

-- a state without its objects, and the slot of each object's newest version
pub record Index : Type 0 where
  pub clock : ℕ
  pub number : ℕ
  pub next : ℕ
  pub last : Option Entry
  pub slots : List ℕ
  pub tasks : List TaskRec

-- the state that an index and some objects are
abbrev pub base_of : Index → Objects → DeviceState
base_of x objects = record {
  objects = objects;
  tasks = x.tasks;
  clock = x.clock;
  number = x.number;
  next = x.next;
}

-- an outcome's trap number, 0 for an exit
abbrev pub trap_word : Outcome → ℕ
trap_word (Exit code) = 0
trap_word (Trap cause) = cause

-- an outcome's exit code, 0 for a trap
abbrev pub exit_word : Outcome → ℕ
exit_word (Exit code) = code
exit_word (Trap cause) = 0

-- the outcome of two such words
abbrev pub outcome_of : (trap exit : ℕ) → Outcome
outcome_of trap exit = if trap == 0 then Exit exit else Trap trap

-- the words 3 to 7, and those behind them
abbrev pub with_last : Option Entry → List ℕ → List ℕ
with_last None words = 0 ∷ 0 ∷ 0 ∷ 0 ∷ 0 ∷ words
with_last (Some e) words =
    e.task ∷ e.point ∷ trap_word e.outcome ∷ exit_word e.outcome ∷ e.first ∷ words

-- three words for each open task
abbrev pub task_words : List TaskRec → List ℕ
task_words [] = []
task_words (t ∷ tasks) = t.id ∷ t.program ∷ t.arg ∷ task_words tasks

-- the words of an index, up to its last open task's
abbrev pub words_of_index : Index → List ℕ
words_of_index x =
    x.clock ∷ x.number ∷ x.next
    ∷ with_last x.last (length x.tasks ∷ (x.slots ++ task_words x.tasks))

-- word i of the index: later records, and the padding, are 0
unfoldable pub index_word : Index → ℕ → ℕ
index_word x i = slice_index (words_of_index x) i

-- the last finish, by its words
abbrev pub read_last : Words → Option Entry
read_last w =
    let outcome = outcome_of (w 5) (w 6) in
    if w 1 == 0 then None
    else Some (record { number = w 1; task = w 3; point = w 4; first = w 7; outcome = outcome })

-- so many tasks, by their words from place i on
abbrev pub read_tasks : Words → ℕ → ℕ → List TaskRec
read_tasks w i zero = []
read_tasks w i (suc n) =
    record { id = w i; program = w (i + 1); arg = w (i + 2) } ∷ read_tasks w (i + 3) n

-- the index of n objects, by its words
unfoldable pub read_index : ℕ → Words → Index
read_index n w = record {
  clock = w 0;
  number = w 1;
  next = w 2;
  last = read_last w;
  slots = words_from w 9 n;
  tasks = read_tasks w (9 + n) (w 8);
}

-- whether word i of the last finish is faulty, by the words before it
abbrev pub is_faulty_last : (clock next task trap i word : ℕ) → Bool
is_faulty_last clock next task trap i word =
    if i == 3 then (word == 0) || nat_le next word
    else if i == 4 then nat_lt clock word
    else if i == 5 then nat_lt 15 word
    else if i == 6 then not (trap == 0) && not (word == 0)
    else nat_le word task || (nat_lt next word || nat_lt (word + 8) next)

-- whether one of the first nine words is faulty, by the words before it
abbrev pub is_faulty_number : ℕ → Words → ℕ → ℕ → Bool
is_faulty_number records before i word =
    if i == 0 then false
    else if i == 1 then nat_lt word (before 0)
    else if i == 2 then word == 0
    else if i == 8 then nat_lt records word
    else if before 1 == 0 then not (word == 0)
    else is_faulty_last (before 0) (before 2) (before 3) (before 5) i word

-- whether word k of the records is faulty: ids increase from 1 on and are below the next one, and later records are 0
abbrev pub is_faulty_record : (count next id_before programs k word : ℕ) → Bool
is_faulty_record count next id_before programs k word =
    if nat_le count (k / 3) then not (word == 0)
    else if k % 3 == 0
    then (word == 0) || (nat_le next word || (nat_le 3 k && nat_le word id_before))
    else if k % 3 == 1 then nat_le programs word
    else false

-- whether index word i is faulty, by the words before it
unfoldable pub is_faulty : TaskSet → Words → ℕ → ℕ → Bool
is_faulty set before i word =
    if nat_lt i 9 then is_faulty_number set.records before i word
    else if nat_lt i (9 + length set.objects) then nat_le (object_at set (i - 9)).slots word
    else if nat_lt i (9 + length set.objects + 3 * set.records)
    then is_faulty_record (before 8) (before 2) (before (i - 3)) (length set.programs)
    (i - (9 + length set.objects)) word
    else not (word == 0)

-- what holds of an index that a device may have
pub record IsIndex (set : TaskSet) (x : Index) : Type 0 where
  pub clock : x.clock ≤ x.number
  pub next : 0 < x.next
  pub last : IsLast (base_of x []) x.last
  pub slots : length x.slots ≡ length set.objects
  pub named : (o : ℕ) → o < length set.objects → slice_index x.slots o < (object_at set o).slots
  pub records : length x.tasks ≤ set.records
  pub in_order : InIdOrder x.tasks
  pub positive : AllByRecursion (λ t. 0 < t.id) x.tasks
  pub old : AllByRecursion (λ t. t.id < x.next) x.tasks
  pub programs : AllByRecursion (λ t. t.program < length set.programs) x.tasks

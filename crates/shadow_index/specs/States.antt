-- What a state is in the definitions, and the room that it has. This project's own.
use Rattle.std.specs.Prelude.{◌≡◌, ℕ, ◌+◌, ◌-◌, ◌/◌, ◌<◌, ◌≤◌, ◌==◌, min, length, map, vec_capacity, Option, None, Some, if◌then◌else◌}
use Rattle.set_model.specs.Sets.{TaskSet}
use Rattle.set_model.specs.Views.{entry_if, task_of}
use Rattle.device_model.specs.Words.{Words}
use Rattle.device_model.specs.IndexWords.{Index, index_word}
use Rattle.nv_base.specs.declared.lines.Entry as base_entry
use Rattle.shadow_index.specs.declared.state.State.{State}

-- its index
abbrev pub index_of : State → Index
index_of s = record {
  clock = s.clock.0;
  number = s.number.0;
  next = s.next.0;
  last = entry_if s.last;
  slots = s.slots.items;
  tasks = map task_of s.tasks.items;
}

-- it has a slot for each object of a set, and room for all task records
pub record HasRoom (set : TaskSet) (s : State) : Type 0 where
  pub slots : length s.slots.items ≡ length set.objects
  pub records : set.records ≤ vec_capacity s.tasks

-- there is a last finish exactly where its number is not 0, and it has this number
abbrev pub IsNumbered : ℕ → Option base_entry.Entry → Type 0
IsNumbered number None = number ≡ 0
IsNumbered number (Some e) = (0 < number) × (e.number.0 ≡ number)

-- how many records begin in the index words before i, where there are so many objects
abbrev pub records_begun : (objects i : ℕ) → ℕ
records_begun objects i = (i - (9 + objects) + 2) / 3

-- it was told how many tasks are open, and has those whose records began
pub record HasOpened (records begun : ℕ) (s : State) : Type 0 where
  pub few : s.told ≤ records
  pub tasks : length s.tasks.items ≡ min s.told begun

-- it has taken the words before i
pub record HasTaken (set : TaskSet) (i : ℕ) (s : State) : Type 0 where
  pub room : HasRoom set s
  pub last : 1 < i → IsNumbered s.number.0 s.last
  pub tasks : 8 < i → HasOpened set.records (records_begun (length set.objects) i) s

-- the index words of a state
abbrev pub word_of : State → Words
word_of s = index_word (index_of s)

-- the index words that a state has taken: how many tasks are open is told before these are there
abbrev pub taken_word : State → Words
taken_word s i = if i == 8 then s.told else word_of s i

-- what is no part of the index stays
pub record KeepsRest (old new : State) : Type 0 where
  pub boots : new.boots ≡ old.boots
  pub root : new.root ≡ old.root
  pub shift : new.shift ≡ old.shift

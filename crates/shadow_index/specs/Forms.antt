-- The index words by their kinds, as code looks at them. This project's own.
use Rattle.std.specs.Prelude.{ℕ, ◌-◌, ◌/◌, ◌%◌, ◌==◌, Bool, List, Option, None, Some, length, get_or, if◌then◌else◌}
use Rattle.nv_base.specs.declared.lines.Entry.{Entry}
use Rattle.nv_base.specs.declared.lines.TaskRec.{TaskRec}
use Rattle.set_model.specs.Views.{outcome_of}
use Rattle.device_model.specs.IndexWords.{exit_word, is_faulty_record, trap_word}
use Rattle.shadow_index.specs.declared.state.State.{State}

-- one of the words 3 to 7 of a last finish
abbrev pub last_word : Entry → ℕ → ℕ
last_word e i =
    if i == 3 then e.task.0
    else if i == 4 then e.point.0
    else if i == 5 then trap_word (outcome_of e.outcome)
    else if i == 6 then exit_word (outcome_of e.outcome)
    else e.first.0

-- the same where there may be none
abbrev pub last_words : Option Entry → ℕ → ℕ
last_words None i = 0
last_words (Some e) i = last_word e i

-- one of the first nine words
abbrev pub number_word : State → ℕ → ℕ
number_word s i =
    if i == 0 then s.clock.0
    else if i == 1 then s.number.0
    else if i == 2 then s.next.0
    else if i == 8 then length s.tasks.items
    else last_words s.last i

-- the same of the words that a state has taken
abbrev pub told_number : State → ℕ → ℕ
told_number s i = if i == 8 then s.told else number_word s i

-- no task at all
abbrev pub no_task : TaskRec
no_task = record { id = record { 0 = 0 }; program = record { 0 = 0 }; arg = 0 }

-- a word of a task
abbrev pub task_word : TaskRec → ℕ → ℕ
task_word t field =
    if field == 0 then t.id.0 else if field == 1 then t.program.0 else t.arg

-- word k of the records
abbrev pub record_word : List TaskRec → ℕ → ℕ
record_word tasks k = task_word (get_or tasks (k / 3) no_task) (k % 3)

-- whether word k of the records is faulty, by how many were told and the records so far
abbrev pub is_faulty_task : (told next : ℕ) → List TaskRec → ℕ → ℕ → ℕ → Bool
is_faulty_task told next tasks programs k word =
    is_faulty_record told next (record_word tasks (k - 3)) programs k word

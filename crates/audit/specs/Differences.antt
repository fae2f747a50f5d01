-- Where a report first differs from the serial replay of its listing. This project's own, over one-copy serializability with the serial order named.
use Rattle.std.specs.Prelude.{◌≡◌, ℕ, ◌+◌, ◌==◌, nat_eq, Bool, ◌&&◌, List, [], ◌∷◌, length, map, slice_get, Option, Some, None, if◌then◌else◌}
use Rattle.std.specs.Option.{option_map, option_or}
use Rattle.std.specs.Cmp.Lexicographic.{pointwise}
use Rattle.kernel_model.specs.Items.{Entry}
use Rattle.kernel_model.specs.Replay.{DeviceState, TaskRec}
use Rattle.kernel_model.specs.Serial.{Serial}
use Rattle.kernel_model.specs.EntryReplay.{Leaves, Replayed, Good, Wrong, Rerun, replay, spawns_at}
use Rattle.set_model.specs.Sets.{TaskSet}
use Rattle.set_model.specs.Formatted.{formatted}
use Rattle.report_text.specs.Reports.{Listed, Report}
use Rattle.task_model.specs.Finals.{runs_of}

-- the entries that a report lists
abbrev pub entries_of : Report → List Entry
entries_of r = map (λ l. l.entry) r.listing

-- the line of the entry at a place
abbrev pub line_at : List Listed → ℕ → Option ℕ
line_at listing place = option_map (λ l. l.line) (slice_get listing place)

-- the line of the first finish that has not the number after the one before it
abbrev pub wrong_number : (number : ℕ) → List Listed → Option ℕ
wrong_number number [] = None
wrong_number number (l ∷ listing) = if l.entry.number == number + 1 then wrong_number (number + 1) listing else Some l.line

-- the line of the first finish that does not name the next id as that of its first child: each finish from this place on takes as many ids as it spawned tasks
abbrev pub wrong_first : List Rerun → (place next : ℕ) → List Listed → Option ℕ
wrong_first reruns place next [] = None
wrong_first reruns place next (l ∷ listing) = if l.entry.first == next then wrong_first reruns (place + 1) (next + spawns_at place reruns) listing else Some l.line

-- the line of the first of two lists' elements that are not the same, from this line on, or that only one list has
abbrev pub unlike_from : {A : Type 0} → (same : A → A → Bool) → (line : ℕ) → List A → List A → Option ℕ
unlike_from same line [] [] = None
unlike_from same line (x ∷ xs) (y ∷ ys) = if same x y then unlike_from same (line + 1) xs ys else Some line
unlike_from same line _ _ = Some line

-- the `end` line, where it does not tell the clock, the number and the next id
abbrev pub wrong_end : (line : ℕ) → (told left : DeviceState) → Option ℕ
wrong_end line told left = if told.clock == left.clock && (told.number == left.number && told.next == left.next) then None else Some line

-- whether two tasks are the same
abbrev pub same_task : TaskRec → TaskRec → Bool
same_task t u = t.id == u.id && (t.program == u.program && t.arg == u.arg)

-- the first line of a report's end that does not tell this state: the `end` line, the object lines behind it, the open lines behind these, and a missing one at the `done` line
abbrev pub wrong_state : Report → DeviceState → Option ℕ
wrong_state r f =
    option_or (wrong_end r.end_line r.state f)
    (option_or (unlike_from (pointwise nat_eq) (r.end_line + 1) r.state.objects f.objects)
    (unlike_from same_task (r.end_line + 1 + length r.state.objects) r.state.tasks f.tasks))

-- where a report whose numbers follow one another differs, by what the serial replay of its listing comes to
abbrev pub DiffersBy : TaskSet → Report → Replayed → Option ℕ → Type 0
DiffersBy set r (Wrong place) line = line ≡ line_at r.listing place
DiffersBy set r (Good reruns) line =
    (f : DeviceState) × Leaves (formatted set) (entries_of r) reruns f × (line ≡ option_or (wrong_first reruns 0 (formatted set).next r.listing) (wrong_state r f))

-- the same, unless a number is wrong
abbrev pub DiffersUnless : TaskSet → Report → Option ℕ → Option ℕ → Type 0
DiffersUnless set r (Some wrong) line = line ≡ Some wrong
DiffersUnless set r None line = DiffersBy set r (replay (runs_of set) (formatted set) (entries_of r)) line

-- the line at which a report first differs from the serial replay of its listing from the formatted state, or none where it does not: the numbers come first, then the replay in serial order, the first children, and the state at the end
abbrev pub IsFirstDifference : TaskSet → Report → Option ℕ → Type 0
IsFirstDifference set r line = DiffersUnless set r (wrong_number (formatted set).number r.listing) line

-- the listing is serial from the formatted state, and leaves what the report tells
abbrev pub IsSerialReport : TaskSet → Report → Type 0
IsSerialReport set r = Serial (runs_of set) (formatted set) (entries_of r) r.state

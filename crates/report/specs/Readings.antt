-- A report that is read line by line: what was read so far, and what one line more makes of it. This project's own.
use Rattle.std.specs.Prelude.{◌≡◌, ℕ, ◌+◌, nat_lt, Bool, true, List, [], ◌∷◌, ◌++◌, length, Option, Some, None, option_map, Result, Ok, Err, if◌then◌else◌}
use Rattle.std.specs.Option.{option_and_then, option_or}
use Rattle.kernel_model.specs.Items.{Entry}
use Rattle.kernel_model.specs.Replay.{TaskRec}
use Rattle.set_model.specs.Sets.{TaskSet, object_at}
use Rattle.report_text.specs.Reports.{Report}
use Rattle.report.specs.declared.reader.Place.{Place}
use Rattle.report.specs.declared.reader.Place.TheVariants.{Events, State, Done}
use Rattle.report.specs.declared.report.ReportRefusal.{ReportRefusal}
use Rattle.report.specs.declared.report.ReportRefusal.TheVariants.{Bad, NoMemory}
use Rattle.report.specs.Ends.{Numbers, end_told}
use Rattle.report.specs.LineReading.{is_quiet, finish_in, end_in, object_in, open_in, is_done}

-- where the next line stands, its number, and what the lines before it tell
pub record Reading : Type 0 where
  pub place : Place
  pub line : ℕ
  pub report : Report

-- at the first line
abbrev pub unread : Reading
unread = record {
  place = Events;
  line = 1;
  report = record { listing = []; end_line = 0; state = record { objects = []; tasks = []; clock = 0; number = 0; next = 0 } };
}

-- behind a line that tells no finish
abbrev pub after_quiet : Reading → Reading
after_quiet r = record r { line = r.line + 1 }

abbrev pub after_finish : Reading → Entry → Reading
after_finish r e = record r { line = r.line + 1; report = record r.report { listing = r.report.listing ++ record { line = r.line; entry = e } ∷ [] } }

abbrev pub after_numbers : Reading → Numbers → Reading
after_numbers r n = record {
  place = State;
  line = r.line + 1;
  report = record r.report { end_line = r.line; state = record r.report.state { clock = n.clock; number = n.number; next = n.next } };
}

abbrev pub after_end : Reading → List ℕ → Reading
after_end r v = after_numbers r (end_told v)

abbrev pub after_object : Reading → List ℕ → Reading
after_object r words = record r { line = r.line + 1; report = record r.report { state = record r.report.state { objects = r.report.state.objects ++ words ∷ [] } } }

abbrev pub after_task : Reading → TaskRec → Reading
after_task r t = record r { line = r.line + 1; report = record r.report { state = record r.report.state { tasks = r.report.state.tasks ++ t ∷ [] } } }

abbrev pub after_done : Reading → Reading
after_done r = record r { place = Done; line = r.line + 1 }

-- whether the last of these tasks, if there is one, has an id below this one
abbrev pub is_above : List TaskRec → ℕ → Bool
is_above [] id = true
is_above (t ∷ []) id = nat_lt t.id id
is_above (t ∷ u ∷ tasks) id = is_above (u ∷ tasks) id

-- a task that is open, with an id above those before
abbrev pub next_task : Reading → TaskRec → Option Reading
next_task r t = if is_above r.report.state.tasks t.id then Some (after_task r t) else None

abbrev pub after_objects : TaskSet → Reading → List ℕ → Option Reading
after_objects set r text = if is_done text then Some (after_done r) else option_and_then (next_task r) (open_in set text)

abbrev pub after_state : TaskSet → Reading → List ℕ → Option Reading
after_state set r text =
    if nat_lt (length r.report.state.objects) (length set.objects) then option_map (after_object r) (object_in set (object_at set (length r.report.state.objects)) text)
    else after_objects set r text

abbrev pub after_event_line : TaskSet → Reading → List ℕ → Option Reading
after_event_line set r text =
    if is_quiet set text then Some (after_quiet r)
    else option_or (option_map (after_finish r) (finish_in set text)) (option_map (after_end r) (end_in set text))

abbrev pub after_line_at : Place → TaskSet → Reading → List ℕ → Option Reading
after_line_at Events set r text = after_event_line set r text
after_line_at State set r text = after_state set r text
after_line_at Done set r text = None

-- one line more, where it may stand there
unfoldable pub after_line : TaskSet → Reading → List ℕ → Option Reading
after_line set r text = after_line_at r.place set r text

-- some lines more
abbrev pub after_lines : TaskSet → Reading → List (List ℕ) → Option Reading
after_lines set r [] = Some r
after_lines set r (line ∷ lines) = option_and_then (λ q. after_lines set q lines) (after_line set r line)

-- what a call left, where it took a line: the reading that is told, or the refusal of this line
abbrev pub LeavesIf : Result (Unit {0}) ReportRefusal → Option Reading → ℕ → Reading → Type 0
LeavesIf (Ok _) told line new = told ≡ Some new
LeavesIf (Err (Bad n)) told line new = (n ≡ line) × (told ≡ None)
LeavesIf (Err NoMemory) told line new = Unit {0}

-- what a reading comes to where these bytes are left, and no line
abbrev pub Ends : Result Report ReportRefusal → Reading → List ℕ → Type 0
Ends (Ok report) r rest = (r.place ≡ Done) × (rest ≡ []) × (report ≡ r.report)
Ends (Err (Bad n)) r rest = (n ≡ r.line) × (r.place ≡ Done → rest ≡ [] → ⊥)
Ends (Err NoMemory) r rest = Unit {0}

-- Which bytes are a report of a task set, and what they tell: those that a run of the set may write, with any numbers in them. This project's own.
use Rattle.std.specs.Prelude.{◌≡◌, ℕ, ◌+◌, ◌<◌, ◌≤◌, List, [], ◌∷◌, ◌++◌, length, ◌≢◌, Option, Some, None}
use Rattle.std.specs.List.{AllByRecursion, flat_map}
use Rattle.kernel_model.specs.Effects.{Outcome, Exit, Trap, Objects}
use Rattle.kernel_model.specs.Items.{Entry}
use Rattle.kernel_model.specs.Replay.{TaskRec, DeviceState}
use Rattle.kernel_model.specs.Serial.{InIdOrder}
use Rattle.kernel_model.specs.Turns.{Line, Nothing, Start, Stale, RefuseEmpty, RefuseSlots, RefuseRecords, Finish, Found, Failed, Booted}
use Rattle.set_model.specs.Sets.{TaskSet, ObjPart}
use Rattle.set_model.specs.Limits.{IsWord}
use Rattle.report_text.specs.Report.{lines_text, end_part}

-- a finish that a line tells, and the number of that line, from 1
pub record Listed : Type 0 where
  pub line : ℕ
  pub entry : Entry

-- what a report tells of its finishes, of the state at its end, and where that stands
pub record Report : Type 0 where
  pub listing : List Listed
  pub end_line : ℕ  -- the number of the `end` line
  pub state : DeviceState

-- ---- what may stand in the lines of a set: its own cores, objects and programs, causes of traps, and any numbers of 32 bits

abbrev pub IsToldOutcome : Outcome → Type 0
IsToldOutcome (Exit code) = IsWord code
IsToldOutcome (Trap cause) = (0 < cause) × (cause ≤ 15)

pub record IsToldEntry (e : Entry) : Type 0 where
  pub number : IsWord e.number
  pub task : IsWord e.task
  pub point : IsWord e.point
  pub first : IsWord e.first
  pub outcome : IsToldOutcome e.outcome

abbrev pub IsToldIf : Option Entry → Type 0
IsToldIf None = Unit {0}
IsToldIf (Some e) = IsToldEntry e

abbrev pub IsTold : TaskSet → Line → Type 0
IsTold set Nothing = Unit {0}
IsTold set (Start core task at) = (core < set.cores) × IsWord task × IsWord at
IsTold set (Stale core task lo hi) = (core < set.cores) × IsWord task × IsWord lo × IsWord hi
IsTold set (RefuseEmpty core task lo hi) = (core < set.cores) × IsWord task × IsWord lo × IsWord hi
IsTold set (RefuseSlots core task object) = (core < set.cores) × IsWord task × (object < length set.objects)
IsTold set (RefuseRecords core task pending spawns) = (core < set.cores) × IsWord task × IsWord pending × IsWord spawns
IsTold set (Finish e) = IsToldEntry e
IsTold set (Found e) = IsToldEntry e
IsTold set Failed = Unit {0}
IsTold set (Booted found boots) = IsToldIf found × IsWord boots

-- as many words as the object's size, for each object
abbrev pub AreTold : List ObjPart → Objects → Type 0
AreTold [] [] = Unit {0}
AreTold (o ∷ parts) (words ∷ objects) = (length words ≡ o.size) × AllByRecursion IsWord words × AreTold parts objects
AreTold _ _ = ⊥

pub record IsToldTask (set : TaskSet) (t : TaskRec) : Type 0 where
  pub id : IsWord t.id
  pub program : t.program < length set.programs
  pub arg : IsWord t.arg

pub record IsToldState (set : TaskSet) (state : DeviceState) : Type 0 where
  pub clock : IsWord state.clock
  pub number : IsWord state.number
  pub next : IsWord state.next
  pub objects : AreTold set.objects state.objects
  pub tasks : AllByRecursion (IsToldTask set) state.tasks
  pub in_order : InIdOrder state.tasks

-- ---- the finishes, with the numbers of their lines

-- how many lines of text an event has: a boot tells the finish that it found on a line of its own
abbrev pub line_count : Line → ℕ
line_count Nothing = 0
line_count (Booted (Some e) boots) = 2
line_count _ = 1

abbrev pub all_lines : List Line → ℕ
all_lines [] = 0
all_lines (l ∷ lines) = line_count l + all_lines lines

-- the finish that an event tells, on the first of its lines, which has this number
abbrev pub listed_at : ℕ → Line → List Listed
listed_at n (Finish e) = record { line = n; entry = e } ∷ []
listed_at n (Found e) = record { line = n; entry = e } ∷ []
listed_at n (Booted (Some e) boots) = record { line = n; entry = e } ∷ []
listed_at n _ = []

-- those of some events, of which the first has the line of this number
abbrev pub listed_from : ℕ → List Line → List Listed
listed_from n [] = []
listed_from n (l ∷ lines) = listed_at n l ++ listed_from (n + line_count l) lines

-- ---- reports

-- the bytes are a report of the set, which tells this
pub record IsReportOf (set : TaskSet) (report : Report) (bytes : List ℕ) : Type 0 where
  pub lines : List Line  -- its events
  pub boots : ℕ
  pub told : AllByRecursion (IsTold set) lines
  pub counted : IsWord boots
  pub state : IsToldState set report.state
  pub listing : report.listing ≡ listed_from 1 lines
  pub end_line : report.end_line ≡ 1 + all_lines lines
  pub text : bytes ≡ lines_text set lines ++ end_part set report.state boots

-- the bytes are a report of the set
abbrev pub IsReport : TaskSet → List ℕ → Type 0
IsReport set bytes = (report : Report) × IsReportOf set report bytes

-- ---- the first line that can't stand where it stands

-- lines without line feeds in them
abbrev pub AreLines : List (List ℕ) → Type 0
AreLines = AllByRecursion (AllByRecursion (λ b. b ≢ 10))

-- as text: each with its line feed
abbrev pub fed : List (List ℕ) → List ℕ
fed lines = flat_map (λ line. line ++ 10 ∷ []) lines

-- the first n lines of the bytes, each with its line feed, are the first n lines of some report of the set
pub record BeginsReport (set : TaskSet) (n : ℕ) (bytes : List ℕ) : Type 0 where
  pub lines : List (List ℕ)
  pub whole : AreLines lines
  pub number : length lines ≡ n
  pub rest : List ℕ
  pub front : bytes ≡ fed lines ++ rest
  pub rest_of_report : List ℕ
  pub report : IsReport set (fed lines ++ rest_of_report)

-- the bytes are no report: the lines before this one begin some report, and with this one none
pub record IsFirstBadLine (set : TaskSet) (line : ℕ) (bytes : List ℕ) : Type 0 where
  pub refused : IsReport set bytes → ⊥
  pub before : ℕ
  pub counted : line ≡ before + 1
  pub stands : BeginsReport set before bytes
  pub falls : BeginsReport set line bytes → ⊥

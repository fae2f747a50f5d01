-- What a turn is in the kernel over tables. This project's own.
use Rattle.std.specs.Prelude.{◌≡◌, ℕ, ◌<◌, ◌++◌, Bool, List, set, get_or, length, Some, None}
use Rattle.rv_core.specs.State.{MachineState, Next}
use Rattle.rv_core.specs.Machine.{step_of}
use Rattle.nv_base.specs.declared.lines.Line.{Line}
use Rattle.nv_base.specs.declared.lines.Line.TheVariants.{Nothing}
use Rattle.kernel_model.specs.Cores.{all_but}
use Rattle.set_model.specs.Views.{line_of}
use Rattle.device_model.specs.Words.{Change, Words, made}
use Rattle.table_machine.specs.Tables.{Seat, Vacant, Tables}
use Rattle.table_machine.specs.Seats.{SeatTurn, seat_turn}
use Rattle.table_machine.specs.Events.{Answer, core_answer}
use Rattle.vol_copy.specs.declared.attempt.Stage.{Stage}
use Rattle.vol_copy.specs.declared.attempt.Stage.TheVariants.{Running}
use Rattle.task_queue.specs.Queues.{is_held}
use Rattle.core_seats.specs.declared.seat.Seat as own
use Rattle.core_seats.specs.Others.{listed_if, task_in}
use Rattle.core_seats.specs.declared.seat.Saving.{Saving}
use Rattle.kernel_core.specs.Commits.{setting_on}
use Rattle.kernel_core.specs.Keeping.{IsLawful, Keeps}
use Rattle.kernel_core.specs.declared.kernel.Kernel.{Kernel}
use Rattle.kernel_core.specs.declared.kernel.Power.TheVariants as power

-- core n of a kernel with its power on has no finish that commits, and its attempt is in this stage
pub record IsAtStage (k : Kernel) (n : ℕ) (is_stage : Stage → Type 0) : Type 0 where
  pub power : k.power ≡ power.On
  pub inside : n < length k.seats.items
  pub seat : own.Seat
  pub seat_is : seat ≡ get_or k.seats.items n seat
  pub trying : seat.saving ≡ None
  pub stage : is_stage seat.attempt.stage

-- core n runs a try, and its machine's next step is one that it takes alone: neither a service nor the try's end
pub record GoesAlone (k : Kernel) (n : ℕ) : Type 0 where
  pub at : IsAtStage k n (λ s. s ≡ Running)
  pub state : MachineState
  pub next : step_of at.seat.attempt.machine ≡ Next state

-- core n of a kernel with its power on has a finish that commits, of which all writes are made, or not all
pub record IsSavingAt (k : Kernel) (n : ℕ) (is_whole : Bool) : Type 0 where
  pub power : k.power ≡ power.On
  pub inside : n < length k.seats.items
  pub seat : own.Seat
  pub seat_is : seat ≡ get_or k.seats.items n seat
  pub saving : Saving
  pub saving_is : seat.saving ≡ Some saving
  pub whole : saving.is_whole ≡ is_whole

-- whether a core holds a task
abbrev pub is_on : (task : ℕ) → own.Seat → Bool
is_on task s = is_held (listed_if (task_in s)) task

-- what core n holds, and what its step makes of it
abbrev pub held_at : Tables MachineState → ℕ → Seat MachineState
held_at t n = get_or t.seats n Vacant

abbrev pub turn_at : Kernel → Words → Tables MachineState → ℕ → SeatTurn MachineState
turn_at k words t n = seat_turn (setting_on k.set words) t words (all_but n t.seats) n (held_at t n)

-- the kernel stands for the tables in which core n holds what its turn made, and the line is the turn's
pub record HasTurned (new : Kernel) (words : Words) (t : Tables MachineState) (n : ℕ) (turn : SeatTurn MachineState) (line : Line) : Type 0 where
  pub keeps : Keeps new words (record t { seats = set t.seats n turn.seat })
  pub tells : line_of line ≡ turn.line

-- a step of core n that writes nothing, and joins nothing, on some words
unfoldable pub TurnsOn : Words → Kernel → ℕ → Kernel → Line → Type 0
TurnsOn words old n new line = (t : Tables MachineState) → Keeps old words t → IsLawful old words t → HasTurned new words t n (turn_at old words t n) line

-- on any words
unfoldable pub SeatTurns : Kernel → ℕ → Kernel → Line → Type 0
SeatTurns old n new line = (words : Words) (t : Tables MachineState) → Keeps old words t → IsLawful old words t → HasTurned new words t n (turn_at old words t n) line

-- that tells nothing
abbrev pub SeatPasses : Kernel → ℕ → Kernel → Type 0
SeatPasses old n new = SeatTurns old n new Nothing

-- what a step of core n makes of the tables, and what it writes
abbrev pub answer_at : Kernel → Words → Tables MachineState → ℕ → Answer MachineState
answer_at k words t n = core_answer (setting_on k.set words) words t n (turn_at k words t n)

-- the kernel stands, on these words, for the tables of an answer, and the line is the answer's
pub record IsAnswered (new : Kernel) (later : Words) (answer : Answer MachineState) (line : Line) : Type 0 where
  pub keeps : Keeps new later answer.tables
  pub tells : line_of line ≡ answer.line

-- a step of core n that may write, or join: it finds these words, and leaves later ones
unfoldable pub CoreTurns : Kernel → ℕ → Kernel → (words later : Words) → Line → Type 0
CoreTurns old n new words later line = (t : Tables MachineState) → Keeps old words t → IsLawful old words t → IsAnswered new later (answer_at old words t n) line

-- some writes were made: the log has grown by them, and the words are those after them
pub record HasMade (writes : List Change) (words later : Words) (log more : List Change) : Type 0 where
  pub logged : more ≡ log ++ writes
  pub words_are : later ≡ made writes words

-- what a step of core n writes was made
unfoldable pub CoreWrites : Kernel → ℕ → (words later : Words) → (log more : List Change) → Type 0
CoreWrites old n words later log more = (t : Tables MachineState) → Keeps old words t → IsLawful old words t → HasMade (answer_at old words t n).writes words later log more

-- A core without a task takes one.
use Rattle.std.proofs.Common.{◌≡◌, ℕ, ◌<◌, Bool, true, false, not, cond, List, [], ◌∷◌, get_or, length, Option, Some, None, refl, sym, ap, ◌∙◌, subst}
use Rattle.std.specs.Option.{option_map}
use Rattle.std.specs.List.{AllByRecursion}
use Rattle.rv_core.specs.State.{MachineState}
use Rattle.nv_base.specs.declared.ids.CoreId.{CoreId}
use Rattle.nv_base.specs.declared.lines.TaskRec as base
use Rattle.nv_base.specs.declared.lines.Line.TheVariants as line
use Rattle.kernel_model.specs.Cores.{all_but}
use Rattle.kernel_model.specs.Replay.{TaskRec}
use Rattle.set_model.specs.Views.{task_of}
use Rattle.device_model.specs.Words.{Words}
use Rattle.device_model.specs.IndexWords.{Index}
use Rattle.shadow_index.specs.States.{index_of}
use Rattle.task_model.specs.TaskSteps.{task_steps}
use Rattle.task_queue.specs.Queues as queues
use Rattle.table_machine.specs.Tables.{Seat, Vacant, Tables}
use Rattle.table_machine.specs.Seats.{SeatTurn, next_ready, seat_turn, start_try, task_on}
use Rattle.vol_copy.specs.Tries.{IsFor}
use Rattle.vol_copy.specs.declared.attempt.Stage.TheVariants as stage
use Rattle.core_seats.specs.declared.seat.Seat as own
use Rattle.core_seats.specs.Holding.{AreSeats, StandsFor}
use Rattle.core_seats.specs.Others.{tasks_in}
use Rattle.kernel_core.specs.Commits.{setting_on}
use Rattle.kernel_core.specs.Keeping.{Keeps}
use Rattle.kernel_core.specs.Turns.{HasTurned, IsAtStage, SeatTurns, turn_at}
use Rattle.kernel_core.specs.declared.kernel.Kernel.{Kernel}
use Rattle.kernel_core.specs.declared.kernel.Power.TheVariants as power
use Rattle.kernel_core.proofs.Turned.{seated, turned}
use Rattle.kernel_core.proofs.AtStage.{blank_seat, nothing_done, on}

-- the law of the tasks that are held
abbrev pub HeldLaw : Type 0
HeldLaw = (seats : List own.Seat) (after : Index) (held : List (Seat MachineState)) (n : ℕ) (tasks : List TaskRec) → AreSeats seats after held → task_on (get_or held n Vacant) ≡ None → next_ready (all_but n held) tasks ≡ queues.next_ready (tasks_in seats) tasks

-- the turn, by what the queue finds
start_turn : (k : Kernel) (words : Words) (t : Tables MachineState) (n : ℕ) (ids : List ℕ) (found : Option base.TaskRec) → HeldLaw → Keeps k words t → IsAtStage k n (λ s. s ≡ stage.Blank) → ids ≡ tasks_in k.seats.items → option_map task_of found ≡ queues.next_ready ids k.committed.queue.tasks
    → turn_at k words t n ≡ start_try (task_steps k.set) k.committed.state.clock.0 n (option_map task_of found)
start_turn k words t n ids found law h g e f =
    let vacant = blank_seat k words t n h g in
    let o = on k words t h g.power in
    let tasks : k.committed.queue.tasks ≡ t.index.tasks = ap (λ (q : queues.Queued). q.tasks) o.committed.queue ∙ ap (λ (x : Index). x.tasks) (sym o.index) in
    let ready : next_ready (all_but n t.seats) t.index.tasks ≡ option_map task_of found =
    law k.seats.items (index_of k.committed.after) t.seats n t.index.tasks h.seats (ap task_on vacant)
    ∙ ap (λ (xs : List ℕ). queues.next_ready xs t.index.tasks) (sym e) ∙ ap (queues.next_ready ids) (sym tasks) ∙ sym f in
    ap (seat_turn (setting_on k.set words) t words (all_but n t.seats) n) vacant
    ∙ ap (start_try (task_steps k.set) t.index.clock n) ready
    ∙ ap (λ (x : Index). start_try (task_steps k.set) x.clock n (option_map task_of found)) o.index

pub starts_none : (k : Kernel) (n : ℕ) (ids : List ℕ) → HeldLaw → IsAtStage k n (λ s. s ≡ stage.Blank) → ids ≡ tasks_in k.seats.items → None ≡ queues.next_ready ids k.committed.queue.tasks → SeatTurns k n k line.Nothing
unfolding SeatTurns
starts_none k n ids law g e f = λ words t h lawful.
    let turn = start_turn k words t n ids None law h g e f in
    subst (λ (u : SeatTurn MachineState). HasTurned k words t n u line.Nothing) (sym turn) (nothing_done k words t n _ line.Nothing h g.inside (sym (blank_seat k words t n h g)) refl)

pub starts_some : (k : Kernel) (core : CoreId) (ids : List ℕ) (task : base.TaskRec) (s : own.Seat) → HeldLaw → IsAtStage k core.0 (λ s. s ≡ stage.Blank) → ids ≡ tasks_in k.seats.items → Some (task_of task) ≡ queues.next_ready ids k.committed.queue.tasks
    → IsFor k.set s.attempt → ((after : Index) (n : ℕ) → StandsFor s after (start_try (task_steps k.set) k.committed.state.clock.0 n (Some (task_of task))).seat)
    → SeatTurns k core.0 (seated k core.0 s) (line.Start core task.id k.committed.state.clock)
unfolding SeatTurns
starts_some k core ids task s law g e f kept stands = λ words t h lawful.
    let n = core.0 in
    let start = start_try (task_steps k.set) k.committed.state.clock.0 n (Some (task_of task)) in
    let turn = start_turn k words t n ids (Some task) law h g e f in
    subst (λ (u : SeatTurn MachineState). HasTurned (seated k n s) words t n u (line.Start core task.id k.committed.state.clock)) (sym turn)
    (record { keeps = turned k words t n s start.seat h g.power kept (stands (index_of k.committed.after) n) (λ i after left e. cc e); tells = refl })

-- what the queue finds is one of its tasks
found_all : (P : TaskRec → Type 0) (ids : List ℕ) (tasks : List TaskRec) (x : TaskRec) → AllByRecursion P tasks → queues.next_ready ids tasks ≡ Some x → P x
found_all P ids [] x h e = absurd (cc e)
found_all P ids (t ∷ tasks) x h e = at (queues.is_held ids t.id) (found_all P ids tasks x h.1) e
  where
    at : (b : Bool) → (queues.next_ready ids tasks ≡ Some x → P x) → cond (not b) (Some t) (queues.next_ready ids tasks) ≡ Some x → P x
    at true rest e = rest e
    at false rest e = let same : t ≡ x = cc e in subst P same h.0

-- so its program is of the set
pub program_of : (k : Kernel) (words : Words) (t : Tables MachineState) (ids : List ℕ) (task : base.TaskRec) → Keeps k words t → k.power ≡ power.On → Some (task_of task) ≡ queues.next_ready ids k.committed.queue.tasks → task.program.0 < length k.set.programs
program_of k words t ids task h e f =
    let o = on k words t h e in
    let found = sym (ap (λ (q : queues.Queued). queues.next_ready ids q.tasks) o.committed.queue) ∙ sym f in
    found_all (λ (x : TaskRec). x.program < length k.set.programs) ids (index_of k.committed.state).tasks (task_of task) o.committed.index.programs found

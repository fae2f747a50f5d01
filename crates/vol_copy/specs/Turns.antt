-- What a turn of an attempt is in the table machine. This project's own.
use Rattle.std.specs.Prelude.{◌≡◌, ℕ, ◌+◌, ◌==◌, ◌<◌, Bool, true, false, List, [], ◌∷◌, length}
use Rattle.rv_core.specs.State.{MachineState, Calls}
use Rattle.rv_core.specs.declared.services.Service.{Service}
use Rattle.nv_base.specs.declared.ids.ObjId.{ObjId}
use Rattle.nv_base.specs.declared.lines.Outcome.{Outcome}
use Rattle.kernel_model.specs.Runs.{Step, Reads}
use Rattle.kernel_model.specs.Intervals.{Interval}
use Rattle.set_model.specs.Sets.{TaskSet, object_at}
use Rattle.set_model.specs.Views.{outcome_of}
use Rattle.device_model.specs.Words.{Words}
use Rattle.device_model.specs.Layouts.{Layout, slot_place}
use Rattle.task_model.specs.TaskSteps.{served, task_steps}
use Rattle.table_machine.specs.Tables.{Chain, Try, Seat, Setting, Runs, Copies, Waits}
use Rattle.table_machine.specs.Seats.{SeatTurn, copy_word, fetch_version, run_step, still}
use Rattle.vol_copy.specs.Tries.{IsCopyingTry, IsEndedTry, IsFor, IsSeat, IsTry}
use Rattle.vol_copy.specs.declared.attempt.Attempt.{Attempt}
use Rattle.vol_copy.specs.declared.attempt.Stage.TheVariants as stage
use Rattle.vol_copy.specs.declared.running.Need.{Need}
use Rattle.vol_copy.specs.declared.running.Need.TheVariants as need
use Rattle.vol_copy.specs.declared.want.Want.{Want}

-- the attempt is in this stage where it needs this
abbrev pub IsInNeed : Attempt → Need → Type 0
IsInNeed a need.Went = a.stage ≡ stage.Running
IsInNeed a (need.Fetch o) = (w : Want) × (a.stage ≡ stage.Fetching o w)
IsInNeed a need.Ready = (outcome : Outcome) × (a.stage ≡ stage.Ready outcome)

-- what a step of the machine makes of a running try: it runs on in the same interval, chooses a version of an object, or waits for a verdict. The attempt stands for the try behind the step; where a version is to be chosen, for the try that has the machine behind the step
abbrev pub LeadsTo : TaskSet → Attempt → Need → List Chain → ℕ → Try MachineState → Step MachineState → Type 0
LeadsTo set a need.Went chains n t step = (u : Try MachineState) × IsTry a u × (u.interval ≡ t.interval) × (run_step (task_steps set) chains n t step ≡ still (Runs u))
LeadsTo set a (need.Fetch o) chains n t step = IsTry a (record t { state = a.machine }) × (run_step (task_steps set) chains n t step ≡ fetch_version chains n t a.machine o.0)
LeadsTo set a need.Ready chains n t step = (outcome : Outcome) × (a.stage ≡ stage.Ready outcome) × IsEndedTry a outcome t × (run_step (task_steps set) chains n t step ≡ still (Waits t (outcome_of outcome)))

-- one step of the old attempt, over any chains and on any core: each try that it stands for goes on as the new one says
unfoldable pub Advances : TaskSet → Attempt → Attempt → Need → Type 0
Advances set old new need = (t : Try MachineState) → IsTry old t → (chains : List Chain) (n : ℕ) → LeadsTo set new need chains n t ((task_steps set).step t.state)

-- the same where the machine has stepped already, and waits on this call
unfoldable pub Serves : TaskSet → Attempt → Service → Attempt → Need → Type 0
Serves set old service new need = IsInNeed new need × ((t : Try MachineState) → IsTry old (record t { state = old.machine }) → (chains : List Chain) (n : ℕ) → LeadsTo set new need chains n t (served set (Calls old.machine service)))

-- a call that waits for the words of an object, in each set that the attempt is for
unfoldable pub Obtains : Attempt → ObjId → Attempt → Need → Type 0
Obtains old o new need =
    (set : TaskSet) → IsFor set old → old.stage ≡ stage.Running → o.0 < length set.objects → 0 < (object_at set o.0).size
    → IsFor set new × ((service : Service) → served set (Calls old.machine service) ≡ Reads old.machine o.0 → Serves set old service new need)

-- a version of the object was chosen: whatever the interval is then, the new attempt stands for each try of the old one, with an empty copy
unfoldable pub OpensRead : Attempt → ObjId → Attempt → Type 0
OpensRead old o new =
    ((w : Want) → old.stage ≡ stage.Fetching o w → new.stage ≡ stage.Copying o w 0)
    × ((t : Try MachineState) (i : Interval) → IsTry old t → IsCopyingTry new o.0 0 (record t { interval = i; copies = record { object = o.0; words = [] } ∷ t.copies }))

-- what a word makes of a copying try: it copies on, or, with the last word, runs on
abbrev pub CopiesTo : Attempt → (object : ObjId) → Want → (copied : ℕ) → (last : Bool) → Try MachineState → (slot : ℕ) → SeatTurn MachineState → Type 0
CopiesTo a o w copied false t slot turn = (a.stage ≡ stage.Copying o w (copied + 1)) × ((u : Try MachineState) × IsCopyingTry a o.0 (copied + 1) u × (u.interval ≡ t.interval) × (turn ≡ still (Copies u slot)))
CopiesTo a o w copied true t slot turn = (a.stage ≡ stage.Running) × ((u : Try MachineState) × IsTry a u × (u.interval ≡ t.interval) × (turn ≡ still (Runs u)))

-- a set on a device
abbrev pub setting_of : TaskSet → Layout → Setting MachineState
setting_of set layout = record { steps = task_steps set; set = set; layout = layout }

-- the old attempt copies this word, in each set that it is for, and on each device where the word stands at its place in the try's slot
unfoldable pub CopiesWord : Attempt → (word : ℕ) → Attempt → (last : Bool) → Type 0
CopiesWord old word new last =
    (set : TaskSet) → IsFor set old → (o : ObjId) (w : Want) (copied : ℕ) → old.stage ≡ stage.Copying o w copied
    → (last ≡ (copied + 1 == (object_at set o.0).size))
    × ((layout : Layout) (words : Words) (t : Try MachineState) (slot : ℕ) → IsCopyingTry old o.0 copied t → word ≡ words (slot_place layout set o.0 slot + copied)
    → CopiesTo new o w copied last t slot (copy_word (setting_of set layout) words t slot t.copies))

-- what the turn of a seat comes to, of which the old attempt stood with this interval: the new one stands for the seat after it, and nothing is printed. Where it needs a version, it stands for the try that chooses one
abbrev pub TurnsTo : Attempt → Interval → Need → List Chain → ℕ → SeatTurn MachineState → Type 0
TurnsTo a i need.Went chains n turn = (seat : Seat MachineState) × IsSeat a i seat × (turn ≡ still seat)
TurnsTo a i (need.Fetch o) chains n turn = (t : Try MachineState) × IsTry a t × (t.interval ≡ i) × (turn ≡ fetch_version chains n t t.state o.0)
TurnsTo a i need.Ready chains n turn = (seat : Seat MachineState) × IsSeat a i seat × (turn ≡ still seat)

-- What the law of events says of a commit that is about to begin: the device holds the state before it, and the commit may follow.
use Rattle.std.proofs.Common.{◌≡◌, ℕ, zero, suc, ◌+◌, ◌<◌, ◌≤◌, false, List, [], ◌∷◌, set, get_or, length, Option, Some, refl, sym, ap, ap₂, ◌∙◌, subst, arith, get_or-set_same}
use Rattle.std.specs.List.{list_any}
use Rattle.rv_core.specs.State.{MachineState}
use Rattle.kernel_model.specs.Cores.{Core, Idle, Running, Copying, Ready, Committing, all_but, is_committing}
use Rattle.kernel_model.specs.Effects.{Outcome}
use Rattle.kernel_model.specs.Events.{On, Boot, Power, State, CoreStep, event_step}
use Rattle.kernel_model.specs.Items.{Entry, FinishRecord}
use Rattle.kernel_model.specs.Replay.{DeviceState, max_id, next_id}
use Rattle.kernel_model.specs.Runs.{max_spawns}
use Rattle.kernel_model.proofs.ForCallers.{base-sized, history-runs, history-step, next_id-bound, next_sound, sound-ids}
use Rattle.slot_model.specs.Kept.{Kept}
use Rattle.set_model.specs.Limits.{IsTaskSet}
use Rattle.device_model.specs.Words.{Words, made}
use Rattle.device_model.specs.IndexWords.{Index}
use Rattle.device_model.specs.Decoding.{Held}
use Rattle.device_model.specs.Commits.{IsNext}
use Rattle.device_model.specs.Devices.{IsHeldOn}
use Rattle.task_model.specs.TaskSteps.{task_steps}
use Rattle.table_machine.specs.Tables.{Saves, Seat, Setting, Tables, Try, Vacant, Waits, world_in}
use Rattle.table_machine.specs.Places.{index_after}
use Rattle.table_machine.specs.Seats.{SeatTurn, commit_of, saves, still}
use Rattle.table_machine.specs.Events.{Answer, joined, step_answer, table_step, written_by}
use Rattle.table_machine.specs.Represents.{Agrees, Ghost, IsOnDevice, Represents, commit_in, held_of, index_of, seat_of, seats_of, tables_on}
use Rattle.table_machine.proofs.Opened.{kind_setting}
use Rattle.table_machine.proofs.SeatLists.{saves-same}
use Rattle.table_machine.proofs.SeatLists as lists
use Rattle.table_machine.proofs.Simulated.{event_simulates}
use Rattle.recovery.specs.Images.{device_at}
use Rattle.kernel_core.specs.Commits.{setting_on}
use Rattle.kernel_core.specs.Keeping.{IsLawful}
use Rattle.kernel_core.specs.Turns.{held_at, turn_at}
use Rattle.kernel_core.specs.declared.kernel.Kernel.{Kernel}

-- ---- the tables of a state with power on

power_of : (x : Setting MachineState) (base : DeviceState) (last : Option Entry) (g : Ghost) (s : State MachineState) (p : Power) → (tables_on x base last g s p).power ≡ p
power_of x base last g s On = refl
power_of x base last g s (Boot left) = refl

tables_at : (x : Setting MachineState) (base : DeviceState) (last : Option Entry) (g : Ghost) (t : Tables MachineState) (words : Words) (s : State MachineState) → Agrees x base last g t words s → t.power ≡ On → t ≡ tables_on x base last g s On
tables_at x base last g t words s a e =
    let on : s.power ≡ On = sym (ap (λ (u : Tables MachineState). u.power) a.tables ∙ power_of x base last g s s.power) ∙ e in
    a.tables ∙ ap (tables_on x base last g s) on

-- ids are left for the children of one finish more
pub has_ids : (k : Kernel) (words : Words) (t : Tables MachineState) → IsLawful k words t → t.power ≡ On → t.index.next + max_spawns ≤ max_id
has_ids k words t h on =
    let a = h.represented.1 in
    let x = setting_on k.set words in
    let world = world_in x h.base in
    let sound = a.lawful.sound.history in
    let set_up = a.lawful.set_up in
    let bound = next_id-bound world.sizes h.base h.state.history (history-runs world set_up.machine (base-sized world.sizes h.base set_up.based) h.state.history sound.replays) in
    let next : t.index.next ≡ next_id h.base h.state.history = ap (λ (u : Tables MachineState). u.index.next) (tables_at x h.base h.last h.represented.0 t words h.state a on) in
    omega (arith, h.ids, h.room, bound, next)

-- ---- the core that commits

commits_at : (base : DeviceState) (history : List FinishRecord) (kept : Kept) (index : Index) (n : ℕ) (c : Core MachineState) (i : FinishRecord) (after : Index) (left : ℕ) → seat_of base history kept index n c ≡ Saves i after left → (c ≡ Committing i left) × (after ≡ index_after kept.plan index i)
commits_at base history kept index n Idle i after left e = absurd (cc e)
commits_at base history kept index n (Running a) i after left e = absurd (cc e)
commits_at base history kept index n (Copying a copied) i after left e = absurd (cc e)
commits_at base history kept index n (Ready a o) i after left e = absurd (cc e)
commits_at base history kept index n (Committing j m) i after left e =
    let same : j ≡ i = cc e in
    let many : m ≡ left = cc e in
    let then_ : after ≡ index_after kept.plan index j = cc e in
    (ap₂ (λ (f : FinishRecord) (l : ℕ). Committing f l) same many, then_ ∙ ap (index_after kept.plan index) same)

commit_here : (cores : List (Core MachineState)) (n : ℕ) (i : FinishRecord) (left : ℕ) → get_or cores n Idle ≡ Committing i left → is_committing (all_but n cores) ≡ false → commit_in cores ≡ Some (i, left)
commit_here [] n i left e h = absurd (cc e)
commit_here (c ∷ cores) zero i left e h = ap (λ (d : Core MachineState). commit_in (d ∷ cores)) e
commit_here (Idle ∷ cores) (suc n) i left e h = commit_here cores n i left e h
commit_here ((Running a) ∷ cores) (suc n) i left e h = commit_here cores n i left e h
commit_here ((Copying a copied) ∷ cores) (suc n) i left e h = commit_here cores n i left e h
commit_here ((Ready a o) ∷ cores) (suc n) i left e h = commit_here cores n i left e h
commit_here ((Committing j m) ∷ cores) (suc n) i left e h = absurd (cc h)

others_same : {A : Type 0} → (xs : List A) (n : ℕ) (x : A) → all_but n (set xs n x) ≡ all_but n xs
others_same [] n x = refl
others_same (y ∷ xs) zero x = refl
others_same (y ∷ xs) (suc n) x = ap (λ ys. y ∷ ys) (others_same xs n x)

-- the finish that a seat alone saves is the commit of the state that the seats are of
found_commit : (base : DeviceState) (history : List FinishRecord) (kept : Kept) (index : Index) (cores : List (Core MachineState)) (seats : List (Seat MachineState)) (n : ℕ) (i : FinishRecord) (after : Index) (left : ℕ)
    → seats ≡ seats_of base history kept index cores → get_or seats n Vacant ≡ Saves i after left → list_any saves (all_but n seats) ≡ false → (commit_in cores ≡ Some (i, left)) × (after ≡ index_after kept.plan index i)
found_commit base history kept index cores seats n i after left e here alone =
    let is = sym (lists.seat_at (seat_of base history kept index) (λ k. refl) cores n) ∙ ap (λ (xs : List (Seat MachineState)). get_or xs n Vacant) (sym e) ∙ here in
    let at = commits_at base history kept index n (get_or cores n Idle) i after left is in
    let others = sym (saves-same base history kept index cores n) ∙ ap (λ (xs : List (Seat MachineState)). list_any saves (all_but n xs)) (sym e) ∙ alone in
    (commit_here cores n i left at.0 others, at.1)

-- ---- the event

-- the step of a core that waits
step_is : (k : Kernel) (words : Words) (t : Tables MachineState) (n : ℕ) (a : Try MachineState) (o : Outcome) (turn : SeatTurn MachineState) → t.power ≡ On → held_at t n ≡ Waits a o → turn_at k words t n ≡ turn
    → table_step (setting_on k.set words) words t (CoreStep n) ≡ record { tables = record t { seats = set t.seats n turn.seat }; writes = []; line = turn.line }
step_is k words t n a o turn on held e =
    let x = setting_on k.set words in
    ap (step_answer x words t n) on
    ∙ ap (λ (c : Seat MachineState). let u = joined x c t in let y : Answer MachineState = record { tables = record u { seats = set u.seats n (turn_at k words t n).seat }; writes = written_by x t c; line = (turn_at k words t n).line } in y) held
    ∙ ap (λ (v : SeatTurn MachineState). let y : Answer MachineState = record { tables = record t { seats = set t.seats n v.seat }; writes = []; line = v.line } in y) e

-- the device holds the state before a commit, which may follow
pub record IsDue (k : Kernel) (words : Words) (t : Tables MachineState) (i : FinishRecord) (after : Index) : Type 0 where
  pub held : Held
  pub index : held.index ≡ t.index
  pub root : held.root ≡ t.root
  pub is_held : IsHeldOn (device_at k.set words) held
  pub next : IsNext k.set held (commit_of i after)

due_by : (k : Kernel) (words : Words) (t : Tables MachineState) (n : ℕ) (i : FinishRecord) (after : Index) (left : ℕ) (base : DeviceState) (last : Option Entry) (s : State MachineState)
    → t.power ≡ On → n < length t.seats → list_any saves (all_but n t.seats) ≡ false → Represents (setting_on k.set words) base last (record t { seats = set t.seats n (Saves i after left) }) words s → IsDue k words t i after
due_by k words t n i after left base last s on inside alone (g, a) =
    let x = setting_on k.set words in
    let same = tables_at x base last g (record t { seats = set t.seats n (Saves i after left) }) words s a on in
    let index = index_of x base last g.kept s.history in
    let others = ap (λ (xs : List (Seat MachineState)). list_any saves xs) (others_same t.seats n (Saves i after left)) ∙ alone in
    let found = found_commit base s.history g.kept index s.cores (set t.seats n (Saves i after left)) n i after left (ap (λ (u : Tables MachineState). u.seats) same) (get_or-set_same t.seats n (Saves i after left) Vacant inside) others in
    let under = (subst (λ c. IsOnDevice x (held_of x base last g s) g.kept.plan c words) found.0 a.device).1 in
    record {
      held = held_of x base last g s;
      index = sym (ap (λ (u : Tables MachineState). u.index) same);
      root = sym (ap (λ (u : Tables MachineState). u.root) same);
      is_held = under.kept.held;
      next = subst (λ (y : Index). IsNext k.set (held_of x base last g s) (commit_of i y)) (sym found.1) under.next;
    }

pub due : (k : Kernel) (words : Words) (t : Tables MachineState) (n : ℕ) (i : FinishRecord) (after : Index) (left : ℕ) (a : Try MachineState) (o : Outcome)
    → IsLawful k words t → IsTaskSet k.set → t.power ≡ On → n < length t.seats → list_any saves (all_but n t.seats) ≡ false → held_at t n ≡ Waits a o → turn_at k words t n ≡ still (Saves i after left) → IsDue k words t i after
due k words t n i after left a o h limits on inside alone held turn =
    let x = setting_on k.set words in
    let world = world_in x h.base in
    let g = h.represented.1.lawful in
    let few = history-step world h.state (CoreStep n) in
    let ids = sound-ids world g.set_up (event_step world h.state (CoreStep n)).0.history (next_sound world g.set_up h.state g.sound g.ids (CoreStep n)).history (omega (arith, h.ids, h.room, few)) in
    let simulated = event_simulates x h.base h.last t words h.state (CoreStep n) (kind_setting (task_steps k.set) (device_at k.set words).kind k.set limits) h.represented ids in
    let moved = subst (λ (y : Answer MachineState). Represents x h.base h.last y.tables (made y.writes words) (event_step world h.state (CoreStep n)).0) (step_is k words t n a o (still (Saves i after left)) on held turn) simulated.state in
    due_by k words t n i after left h.base h.last (event_step world h.state (CoreStep n)).0 on inside alone moved

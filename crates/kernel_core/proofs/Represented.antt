-- What the state that the tables stand for says of the tables and of the words.
use Rattle.std.proofs.Common.{◌≡◌, ℕ, ◌≤◌, List, [], ◌∷◌, length, get_or, refl, sym, ap, ap₂, ◌∙◌, subst, arith}
use Rattle.std.proofs.lemmas.List.{length-append}
use Rattle.rv_core.specs.State.{MachineState}
use Rattle.kernel_model.specs.Items.{FinishRecord, entry_of, listing}
use Rattle.kernel_model.specs.Replay.{DeviceState, max_id, next_id}
use Rattle.kernel_model.specs.Cores.{Core, Idle, Running, Copying, Ready, Committing, commits}
use Rattle.kernel_model.specs.Events.{Power, On, Boot, Event, CoreStep, event_step}
use Rattle.kernel_model.proofs.ForCallers.{history-step, next_sound, sound-ids}
use Rattle.slot_model.specs.Kept.{Kept}
use Rattle.set_model.specs.Sets.{TaskSet}
use Rattle.set_model.specs.Limits.{IsTaskSet}
use Rattle.device_model.specs.Words.{Words, made}
use Rattle.device_model.specs.IndexWords.{Index}
use Rattle.task_model.specs.TaskSteps.{task_steps}
use Rattle.table_machine.specs.Tables.{Vacant, Saves, Tables, world_in}
use Rattle.table_machine.specs.Places.{index_after}
use Rattle.table_machine.specs.Events.{table_step, step_answer, Answer}
use Rattle.table_machine.specs.Represents.{index_of, seat_of, tables_on}
use Rattle.table_machine.specs.Simulates.{IsSetting, Simulates}
use Rattle.table_machine.proofs.SeatLists.{seat_at}
use Rattle.table_machine.proofs.Opened.{kind_setting}
use Rattle.table_machine.proofs.Courses.{words_hold}
use Rattle.table_machine.proofs.Simulated.{event_simulates}
use Rattle.recovery.specs.Images.{device_at}
use Rattle.kernel_core.specs.Commits.{setting_on}
use Rattle.kernel_core.specs.Keeping.{IsLawful}
use Rattle.kernel_core.specs.Turns.{answer_at, held_at}
use Rattle.kernel_core.specs.declared.kernel.Kernel.{Kernel}

-- the device is laid out for the set
pub setting_fits : (set : TaskSet) (words : Words) → IsTaskSet set → IsSetting (setting_on set words)
setting_fits set words h = kind_setting (task_steps set) (device_at set words).kind set h

-- there are ids for the children of one finish more
pub has_ids : (k : Kernel) (words : Words) (t : Tables MachineState) (e : Event) → (l : IsLawful k words t) → next_id l.base (event_step (world_in (setting_on k.set words) l.base) l.state e).0.history ≤ max_id
has_ids k words t e l =
    let world = world_in (setting_on k.set words) l.base in
    let h = l.represented.1.lawful in
    let few = history-step world l.state e in
    let room = l.room in
    let ids = l.ids in
    sound-ids world h.set_up (event_step world l.state e).0.history (next_sound world h.set_up l.state h.sound h.ids e).history (omega (arith, ids, few, room))

-- each event is simulated
pub simulated : (k : Kernel) (words : Words) (t : Tables MachineState) (e : Event) → IsTaskSet k.set → (l : IsLawful k words t) → Simulates (setting_on k.set words) l.base l.last t words l.state e
simulated k words t e h l = event_simulates (setting_on k.set words) l.base l.last t words l.state e (setting_fits k.set words h) l.represented (has_ids k words t e l)

-- a step of a core with power on
pub step_is : (k : Kernel) (words : Words) (t : Tables MachineState) (n : ℕ) → t.power ≡ On → table_step (setting_on k.set words) words t (CoreStep n) ≡ answer_at k words t n
step_is k words t n e = ap (step_answer (setting_on k.set words) words t n) e

-- no event changes word 0
pub first_word : (k : Kernel) (words : Words) (t : Tables MachineState) (n : ℕ) → IsTaskSet k.set → IsLawful k words t → t.power ≡ On → made (answer_at k words t n).writes words 0 ≡ words 0
first_word k words t n h l on =
    let x = setting_on k.set words in
    let fit = setting_fits k.set words h in
    let old = words_hold x l.base l.last t words l.state fit l.represented in
    let e = CoreStep n in
    let a = table_step x words t e in
    let new = words_hold x l.base l.last a.tables (made a.writes words) (event_step (world_in x l.base) l.state e).0 fit (simulated k words t e h l).state in
    let same : made a.writes words 0 ≡ words 0 = new.1.header 0 (omega arith) (λ z. cc z) (λ z. cc z) ∙ sym (old.1.header 0 (omega arith) (λ z. cc z) (λ z. cc z)) in
    subst (λ (b : Answer MachineState). made b.writes words 0 ≡ words 0) (step_is k words t n on) same

-- a core that saves a finish commits
abbrev pub Commits : Kept → Index → Core MachineState → FinishRecord → Index → ℕ → Type 0
Commits kept index c i after left = (c ≡ Committing i left) × (after ≡ index_after kept.plan index i)

saves_by : (base : DeviceState) (history : List FinishRecord) (kept : Kept) (index : Index) (n : ℕ) (c : Core MachineState) (i : FinishRecord) (after : Index) (left : ℕ) → seat_of base history kept index n c ≡ Saves i after left → Commits kept index c i after left
saves_by base history kept index n Idle i after left e = absurd (cc e)
saves_by base history kept index n (Running a) i after left e = absurd (cc e)
saves_by base history kept index n (Copying a copied) i after left e = absurd (cc e)
saves_by base history kept index n (Ready a outcome) i after left e = absurd (cc e)
saves_by base history kept index n (Committing j more) i after left e =
    let item : j ≡ i = cc e in
    let count : more ≡ left = cc e in
    let state : index_after kept.plan index j ≡ after = cc e in
    (ap₂ (λ (x : FinishRecord) (m : ℕ). Committing x m) item count, sym state ∙ ap (index_after kept.plan index) item)

-- with power on, it is on in the state
pub state_on : (k : Kernel) (words : Words) (t : Tables MachineState) (l : IsLawful k words t) → t.power ≡ On → l.state.power ≡ On
state_on k words t l on = sym (ap (λ (u : Tables MachineState). u.power) l.represented.1.tables ∙ same l.state.power) ∙ on
  where
    same : (p : Power) → (tables_on (setting_on k.set words) l.base l.last l.represented.0 l.state p).power ≡ p
    same On = refl
    same (Boot left) = refl

-- then the tables are those of the state
pub tables_are : (k : Kernel) (words : Words) (t : Tables MachineState) (l : IsLawful k words t) → t.power ≡ On → t ≡ tables_on (setting_on k.set words) l.base l.last l.represented.0 l.state On
tables_are k words t l on = l.represented.1.tables ∙ ap (tables_on (setting_on k.set words) l.base l.last l.represented.0 l.state) (state_on k words t l on)

-- the index of the state
abbrev pub index_in : (k : Kernel) (words : Words) (t : Tables MachineState) → IsLawful k words t → Index
index_in k words t l = index_of (setting_on k.set words) l.base l.last l.represented.0.kept l.state.history

-- what core n holds, by the state
core_held : (k : Kernel) (words : Words) (t : Tables MachineState) (l : IsLawful k words t) (n : ℕ) → t.power ≡ On → held_at t n ≡ seat_of l.base l.state.history l.represented.0.kept (index_in k words t l) n (get_or l.state.cores n Idle)
core_held k words t l n on =
    ap (λ (u : Tables MachineState). get_or u.seats n Vacant) (tables_are k words t l on)
    ∙ seat_at (seat_of l.base l.state.history l.represented.0.kept (index_in k words t l)) (λ m. refl) l.state.cores n

-- a core that saves a finish commits
pub core_commits : (k : Kernel) (words : Words) (t : Tables MachineState) (l : IsLawful k words t) (n : ℕ) (i : FinishRecord) (after : Index) (left : ℕ) → t.power ≡ On → held_at t n ≡ Saves i after left → Commits l.represented.0.kept (index_in k words t l) (get_or l.state.cores n Idle) i after left
core_commits k words t l n i after left on e = saves_by l.base l.state.history l.represented.0.kept (index_in k words t l) n (get_or l.state.cores n Idle) i after left (sym (core_held k words t l n on) ∙ e)

-- one finish commits at most
pub one_saves : (k : Kernel) (words : Words) (t : Tables MachineState) → IsLawful k words t → t.power ≡ On → (n m : ℕ) (i j : FinishRecord) (x y : Index) (a b : ℕ) → held_at t n ≡ Saves i x a → held_at t m ≡ Saves j y b → m ≡ n
one_saves k words t l on n m i j x y a b e f = l.represented.1.lawful.sound.one_commits m n (ap commits (core_commits k words t l m j y b on f).0) (ap commits (core_commits k words t l n i x a on e).0)

-- ---- the next state

length-listing : (history : List FinishRecord) → length (listing history) ≡ length history
length-listing [] = refl
length-listing (i ∷ history) = let e = length-listing history in let f = length-append (listing history) (entry_of i ∷ []) in omega (arith, e, f)

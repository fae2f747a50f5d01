-- A step that leaves the device alone and tells nothing.
use Rattle.std.proofs.Common.{◌≡◌, ℕ, ◌<◌, ◌≤◌, Bool, true, false, IsTrue, not, ◌||◌, cond, eqb, nat_eq, List, [], ◌∷◌, length, set, map, get_or, is_some, Option, Some, None, refl, sym, ap, ap₂, ◌∙◌, subst, arith}
use Rattle.std.specs.List.{list_any}
use Rattle.std.specs.Global.{Vec}
use Rattle.std.specs.Vec.{with_item}
use Rattle.std.proofs.Math.Nat.{ℕ_set}
use Rattle.std.proofs.Math.Bridge.{le_prop}
use Rattle.nv_base.specs.declared.lines.TaskRec as base
use Rattle.rv_core.specs.State.{MachineState, Next}
use Rattle.rv_core.specs.Machine.{step_of}
use Rattle.nv_base.specs.declared.lines.Line.TheVariants.{Nothing}
use Rattle.kernel_model.specs.Replay.{TaskRec}
use Rattle.set_model.specs.Views.{task_of}
use Rattle.device_model.specs.Words.{Change, Words}
use Rattle.recovery.specs.declared.boot.Boot.{Boot}
use Rattle.power_trace.specs.declared.event.Event.TheVariants as event
use Rattle.nv_base.specs.declared.ids.CoreId.{CoreId}
use Rattle.task_queue.specs.Queues as queues
use Rattle.vol_copy.specs.Doings.{doing_in}
use Rattle.vol_copy.specs.Stages.{is_waiting}
use Rattle.vol_copy.specs.declared.attempt.Stage.{Stage}
use Rattle.vol_copy.specs.declared.attempt.Stage.TheVariants as stage
use Rattle.vol_copy.specs.declared.doing.Doing.TheVariants as doing
use Rattle.core_seats.specs.declared.seat.Seat as own
use Rattle.core_seats.specs.Steps.{RunsOn}
use Rattle.vol_copy.specs.Tries.{IsFor}
use Rattle.core_seats.specs.Others.{listed_if, saves_in, task_in, tasks_in, with_task}
use Rattle.kernel_core.specs.Events.{SimulatesEvent}
use Rattle.kernel_core.specs.Steps.{KeepsSet, Passes}
use Rattle.kernel_core.specs.Turns.{GoesAlone, IsAtStage, SeatPasses}
use Rattle.kernel_core.specs.declared.kernel.Kernel.{Kernel}
use Rattle.kernel_core.specs.declared.kernel.Power.TheVariants as power
use Rattle.kernel_core.proofs.AtStage.{same_set}
use Rattle.kernel_core.proofs.Advancing.{runs_on}
use Rattle.kernel_core.proofs.Turned.{seated}
use Rattle.kernel_core.proofs.Booting.{other_image, other_steps, other_writes}
use Rattle.kernel_core.proofs.Starting.{HeldLaw, starts_none}
use Rattle.kernel_core.proofs.Stepping.{core_turns, on_words, try_image, try_steps, try_writes}
use Rattle.kernel_core.proofs.Waiting.{same_item, waits_on}

pub is_false : (b : Bool) → IsTrue (not b) → b ≡ false
is_false true h = absurd (cc h)
is_false false h = refl

-- ---- the task that a core may take

either : (b x y : Bool) → x ≡ y → ((b || false) || x) ≡ (b || y)
either true x y e = refl
either false x y e = e

with_one : (held : Option ℕ) (task : ℕ) (others : List ℕ) (b : Bool) → b ≡ queues.is_held others task → (queues.is_held (listed_if held) task || b) ≡ queues.is_held (with_task held others) task
with_one None task others b e = e
with_one (Some id) task others b e = either (nat_eq id task) b (queues.is_held others task) e

-- one of some cores holds a task
pub any_held : (seats : List own.Seat) (task : ℕ) → list_any (λ s. queues.is_held (listed_if (task_in s)) task) seats ≡ queues.is_held (tasks_in seats) task
any_held [] task = refl
any_held (s ∷ seats) task = with_one (task_in s) task (tasks_in seats) (list_any (λ s. queues.is_held (listed_if (task_in s)) task) seats) (any_held seats task)

one_free : (b h x : Bool) (o : Option TaskRec) (t : TaskRec) → b ≡ h → x ≡ is_some o → (not b || x) ≡ is_some (cond (not h) (Some t) o)
one_free true true x o t e f = f
one_free true false x o t e f = absurd (cc e)
one_free false true x o t e f = absurd (cc e)
one_free false false x o t e f = refl

-- a task is open that none of them holds
pub any_free : (seats : List own.Seat) (tasks : List base.TaskRec) → list_any (λ t. not (list_any (λ s. queues.is_held (listed_if (task_in s)) t.id.0) seats)) tasks ≡ is_some (queues.next_ready (tasks_in seats) (map task_of tasks))
any_free seats [] = refl
any_free seats (t ∷ tasks) = one_free (list_any (λ s. queues.is_held (listed_if (task_in s)) t.id.0) seats) (queues.is_held (tasks_in seats) t.id.0) (list_any (λ u. not (list_any (λ s. queues.is_held (listed_if (task_in s)) u.id.0) seats)) tasks) (queues.next_ready (tasks_in seats) (map task_of tasks)) (task_of t) (any_held seats t.id.0) (any_free seats tasks)

pub none_there : {A : Type 0} → (o : Option A) → is_some o ≡ false → None ≡ o
none_there None e = refl
none_there (Some x) e = absurd (cc e)

-- ---- a core of which no finish commits

-- in which stage it is, by what it does
blank_stage : (s : Stage) → doing.Nothing ≡ doing_in s → s ≡ stage.Blank
blank_stage stage.Blank e = refl
blank_stage stage.Running e = absurd (cc e)
blank_stage (stage.Fetching o want) e = absurd (cc e)
blank_stage (stage.Copying o want copied) e = absurd (cc e)
blank_stage (stage.Ready outcome) e = absurd (cc e)

ready_stage : (s : Stage) → doing.Waits ≡ doing_in s → is_waiting s ≡ true
ready_stage stage.Blank e = absurd (cc e)
ready_stage stage.Running e = absurd (cc e)
ready_stage (stage.Fetching o want) e = absurd (cc e)
ready_stage (stage.Copying o want copied) e = absurd (cc e)
ready_stage (stage.Ready outcome) e = refl

abbrev at_stage : (k : Kernel) (n : ℕ) (P : Stage → Type 0) → (g : IsAtStage k n (λ s. Unit {0})) → P g.seat.attempt.stage → IsAtStage k n P
at_stage k n P g p = record { power = g.power; inside = g.inside; seat = g.seat; seat_is = g.seat_is; trying = g.trying; stage = p }

-- without a task, and each open one is held
pub idles : (k : Kernel) (n : ℕ) (s : own.Seat) → HeldLaw → (g : IsAtStage k n (λ s. Unit {0})) → s ≡ g.seat → doing.Nothing ≡ doing_in s.attempt.stage → is_some (queues.next_ready (tasks_in k.seats.items) k.committed.queue.tasks) ≡ false → SeatPasses k n k
idles k n s law g same e none =
    let blank = blank_stage g.seat.attempt.stage (e ∙ ap (λ (x : own.Seat). doing_in x.attempt.stage) same) in
    starts_none k n (tasks_in k.seats.items) law (at_stage k n (λ s. s ≡ stage.Blank) g blank) refl (none_there (queues.next_ready (tasks_in k.seats.items) k.committed.queue.tasks) none)

-- it waits for a verdict, and another finish commits
pub waits : (k : Kernel) (n : ℕ) (s : own.Seat) → (g : IsAtStage k n (λ s. Unit {0})) → s ≡ g.seat → doing.Waits ≡ doing_in s.attempt.stage → saves_in k.seats.items ≡ true → SeatPasses k n k
waits k n s g same e saving =
    let ready = ready_stage g.seat.attempt.stage (e ∙ ap (λ (x : own.Seat). doing_in x.attempt.stage) same) in
    waits_on k n (at_stage k n (λ s. is_waiting s ≡ true) g ready) saving

-- so it passes
pub try_passes : (old new : Kernel) (n : ℕ) → IsAtStage old n (λ s. Unit {0}) → SeatPasses old n new → Passes old n new
unfolding Passes
try_passes old new n g turns = λ words. record {
  steps = try_steps old new words n (λ s. Unit {0}) Nothing g (on_words old new n Nothing turns words);
  written = λ log. try_writes old words n (λ s. Unit {0}) log g;
  image = try_image old words n (λ s. Unit {0}) g;
}

-- a core of which no finish commits, with power on
abbrev pub stands_on : (k : Kernel) (n at : ℕ) (s : own.Seat) → k.power ≡ power.On → n < k.set.cores → length k.seats.items ≡ k.set.cores → at ≡ n → s ≡ get_or k.seats.items at s → s.saving ≡ None → IsAtStage k n (λ s. Unit {0})
stands_on k n at s on inside cores e is trying = record { power = on; inside = omega (arith, inside, cores); seat = s; seat_is = subst (λ (m : ℕ). s ≡ get_or k.seats.items m s) e is; trying = trying; stage = tt }

-- ---- a core whose machine takes a step

-- the core runs
abbrev pub runs_at : (k : Kernel) (n at : ℕ) (s : own.Seat) → k.power ≡ power.On → n < k.set.cores → length k.seats.items ≡ k.set.cores → at ≡ n → s ≡ get_or k.seats.items at s → s.saving ≡ None → s.attempt.stage ≡ stage.Running → IsAtStage k n (λ st. st ≡ stage.Running)
runs_at k n at s on inside cores e is trying running = at_stage k n (λ st. st ≡ stage.Running) (stands_on k n at s on inside cores e is trying) running

-- and what its seat becomes, whatever versions there are
pub goes : (k : Kernel) (core : CoreId) (at : ℕ) (s new : own.Seat) → k.power ≡ power.On → core.0 < k.set.cores → length k.seats.items ≡ k.set.cores → at ≡ core.0 → s ≡ get_or k.seats.items at s → s.saving ≡ None → s.attempt.stage ≡ stage.Running → IsFor k.set new.attempt
    → RunsOn k.set k.committed.versions s new None → Passes k core.0 (seated k at new)
goes k core at s new on inside cores e is trying running kept runs =
    let g = runs_at k core.0 at s on inside cores e is trying running in
    subst (λ (m : ℕ). Passes k core.0 (seated k m new)) (sym e) (try_passes k (seated k core.0 new) core.0 (stands_on k core.0 at s on inside cores e is trying) (runs_on k core new g kept runs))

-- a core whose seat took no step has no step that its machine takes alone
pub went : (k : Kernel) (n at : ℕ) (s : own.Seat) → at ≡ n → s ≡ get_or k.seats.items at s → (s.saving ≡ None → s.attempt.stage ≡ stage.Running → (m : MachineState) → step_of s.attempt.machine ≡ Next m → ⊥) → GoesAlone k n → ⊥
went k n at s e is stops g =
    let item = subst (λ (m : ℕ). s ≡ get_or k.seats.items m s) e is in
    let same = same_item k.seats.items n s g.at.seat g.at.inside item g.at.seat_is in
    subst (λ (x : own.Seat). x.saving ≡ None → x.attempt.stage ≡ stage.Running → (m : MachineState) → step_of x.attempt.machine ≡ Next m → ⊥) same stops g.at.trying g.at.stage g.state g.next

-- where its seat stays as it is, all does
same_vec : (v : Vec own.Seat) (xs : List own.Seat) (ok : (v.len ≡ length xs) × (v.len ≤ v.cap)) → xs ≡ v.items → record v { items = xs; ok = ok } ≡ v
same_vec v xs ok e = subst (λ (ys : List own.Seat). (ok : (v.len ≡ length ys) × (v.len ≤ v.cap)) → record v { items = ys; ok = ok } ≡ v) (sym e) (λ ok. ap₂ (λ (p : v.len ≡ length v.items) (q : v.len ≤ v.cap). record v { ok = (p, q) }) (ℕ_set v.len (length v.items) ok.0 v.ok.0) (le_prop ok.1 v.ok.1)) ok

pub same_kernel : (k : Kernel) (at : ℕ) (s new : own.Seat) → at < length k.seats.items → s ≡ get_or k.seats.items at s → new ≡ s → seated k at new ≡ k
same_kernel k at s new l is e =
    let v = k.seats in
    ap (λ (x : own.Seat). seated k at x) (e ∙ is)
    ∙ ap (λ (w : Vec own.Seat). record k { seats = w }) (same_vec v (set v.items at (get_or v.items at s)) (with_item v at (get_or v.items at s)).ok (same_set v.items at s l))

-- ---- a core but the first, while a boot goes on

pub other_passes : (k : Kernel) (n : ℕ) (b : Boot) → k.power ≡ power.Boot b → eqb n 0 ≡ false → Passes k n k
unfolding Passes
other_passes k n b off other = λ words. record {
  steps = other_steps k words n b off other;
  written = λ log. other_writes k words n b log off other;
  image = other_image k words n b off other;
}

-- ---- the event

pub core_passes : (old new : Kernel) (core : CoreId) (words : Words) (log : List Change) → KeepsSet old new → length old.listing.items < old.room → Passes old core.0 new → SimulatesEvent old (event.Core core) words log new words log Nothing
unfolding Passes
core_passes old new core words log same few passes =
    let p = passes words in
    core_turns old new core words words log log Nothing same few p.steps (p.written log) p.image

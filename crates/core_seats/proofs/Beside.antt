-- What the cores hold, one by one and all.
use Rattle.std.proofs.Common.{◌≡◌, ℕ, zero, suc, ◌+◌, ◌<◌, Bool, true, false, not, ◌||◌, cond, nat_eq, List, [], ◌∷◌, ◌++◌, Option, Some, None, get_or, length, map, take, refl, sym, ap, ap₂, ◌∙◌, subst, arith}
use Rattle.std.specs.Prelude.{is_some}
use Rattle.std.specs.List.{list_any}
use Rattle.std.specs.Option.{option_map}
use Rattle.std.proofs.lemmas.Bool.{eqb-false, eqb-true}
use Rattle.std.proofs.lemmas.List.{append-nil, length-take-le, map-append, take_more}
use Rattle.nv_base.specs.declared.ids.TaskId.{TaskId}
use Rattle.validate.specs.Views.{view_of}
use Rattle.validate.specs.declared.beside.View as own
use Rattle.rv_core.specs.State.{MachineState}
use Rattle.kernel_model.specs.Items.{Entry}
use Rattle.kernel_model.specs.Cores.{all_but, is_task}
use Rattle.kernel_model.specs.Replay.{TaskRec}
use Rattle.device_model.specs.IndexWords.{Index}
use Rattle.interval.specs.Ranges.{range_of}
use Rattle.slot_model.specs.Tabled.{Pin, View, with_view}
use Rattle.task_queue.specs.Queues as queues
use Rattle.table_machine.specs.Tables.{Copy, Try, Vacant}
use Rattle.table_machine.specs.Tables as tables
use Rattle.table_machine.specs.Places as tabled
use Rattle.table_machine.specs.Seats.{next_ready, saves, task_on}
use Rattle.vol_copy.specs.Tries.{IsSeatAt}
use Rattle.vol_copy.specs.declared.attempt.Stage.{Stage}
use Rattle.vol_copy.specs.declared.attempt.Stage.TheVariants as stage
use Rattle.core_seats.specs.declared.seat.Seat.{Seat}
use Rattle.core_seats.specs.declared.seat.Saving.{Saving}
use Rattle.core_seats.specs.Holding.{AreSeats, IsFromSlot, StandsFor, StandsForBy}
use Rattle.core_seats.specs.Others.{listed_if, saves_in, task_by, task_in, tasks_in, view_at, view_by, view_in, views_in, with_task}

-- ---- one core

-- the task
pub task_same : (s : Seat) (after : Index) (t : tables.Seat MachineState) → StandsFor s after t → task_on t ≡ task_in s
task_same s after t h = at s.saving h
  where
    by_stage : (st : Stage) → IsSeatAt s.attempt (range_of s.reads) st t → task_on t ≡ task_by s.attempt.task.0 st
    by_stage stage.Blank g = ap task_on g
    by_stage stage.Running g = ap task_on g.3 ∙ ap (λ (k : ℕ). Some k) g.1.done.task
    by_stage (stage.Fetching object want) g = absurd g
    by_stage (stage.Copying object want copied) g = ap task_on g.4 ∙ ap (λ (k : ℕ). Some k) g.2.done.task
    by_stage (stage.Ready outcome) g = ap task_on g.3 ∙ ap (λ (k : ℕ). Some k) g.1.task

    at : (v : Option Saving) → StandsForBy s after v t → task_on t ≡ task_in s
    at None g = by_stage s.attempt.stage g.0
    at (Some v) g = ap task_on g.is ∙ ap (λ (k : ℕ). Some k) (ap (λ (e : Entry). e.task) g.entry ∙ ap (λ x. x.0) g.task) ∙ sym (ap (task_by s.attempt.task.0) g.ended)

-- what is kept of its try
pub view_same : (s : Seat) (after : Index) (t : tables.Seat MachineState) → StandsFor s after t → tabled.view_by t ≡ view_in s
view_same s after t h = at s.saving h
  where
    by_stage : (st : Stage) → IsSeatAt s.attempt (range_of s.reads) st t → IsFromSlot s.slot t → tabled.view_by t ≡ view_at s st
    by_stage stage.Blank g k = ap tabled.view_by g
    by_stage stage.Running g k = ap tabled.view_by g.3 ∙ ap (λ i. let v : View = record { interval = i; copying = None } in Some v) g.2
    by_stage (stage.Fetching object want) g k = absurd g
    by_stage (stage.Copying object want copied) g k =
        let from : g.1 ≡ s.slot = subst (IsFromSlot s.slot) g.4 k in
        ap tabled.view_by g.4
        ∙ ap (λ (copies : List Copy). let v : View = record { interval = g.0.interval; copying = tabled.pin_by g.1 copies } in Some v) g.2.newest
        ∙ ap₂ (λ i (slot : ℕ). let p : Pin = record { object = object.0; slot = slot } in let v : View = record { interval = i; copying = Some p } in Some v) g.3 from
    by_stage (stage.Ready outcome) g k = ap tabled.view_by g.3 ∙ ap (λ i. let v : View = record { interval = i; copying = None } in Some v) g.2

    at : (v : Option Saving) → StandsForBy s after v t → tabled.view_by t ≡ view_by s v
    at None g = by_stage s.attempt.stage g.0 g.1
    at (Some v) g = ap tabled.view_by g.is

-- whether a finish of it commits
pub saves_same : (s : Seat) (after : Index) (t : tables.Seat MachineState) → StandsFor s after t → saves t ≡ is_some s.saving
saves_same s after t h = at s.saving h
  where
    by_stage : (st : Stage) → IsSeatAt s.attempt (range_of s.reads) st t → saves t ≡ false
    by_stage stage.Blank g = ap saves g
    by_stage stage.Running g = ap saves g.3
    by_stage (stage.Fetching object want) g = absurd g
    by_stage (stage.Copying object want copied) g = ap saves g.4
    by_stage (stage.Ready outcome) g = ap saves g.3

    at : (v : Option Saving) → StandsForBy s after v t → saves t ≡ is_some v
    at None g = by_stage s.attempt.stage g.0
    at (Some v) g = ap saves g.is

-- ---- all

held_with : (task : Option ℕ) (tasks : List ℕ) (id : ℕ) → queues.is_held (with_task task tasks) id ≡ (is_task task id || queues.is_held tasks id)
held_with None tasks id = refl
held_with (Some task) tasks id = refl

pub held_any : (seats : List Seat) (after : Index) (held : List (tables.Seat MachineState)) (id : ℕ) → AreSeats seats after held → list_any (λ c. is_task (task_on c) id) held ≡ queues.is_held (tasks_in seats) id
held_any [] after [] id h = refl
held_any [] after (t ∷ held) id h = absurd h
held_any (s ∷ seats) after [] id h = absurd h
held_any (s ∷ seats) after (t ∷ held) id h =
    ap₂ (λ (a b : Bool). a || b) (ap (λ k. is_task k id) (task_same s after t h.0)) (held_any seats after held id h.1)
    ∙ sym (held_with (task_in s) (tasks_in seats) id)

pub views_all : (seats : List Seat) (after : Index) (held : List (tables.Seat MachineState)) → AreSeats seats after held → tabled.views_in held ≡ views_in seats
views_all [] after [] h = refl
views_all [] after (t ∷ held) h = absurd h
views_all (s ∷ seats) after [] h = absurd h
views_all (s ∷ seats) after (t ∷ held) h = ap₂ with_view (view_same s after t h.0) (views_all seats after held h.1)

pub saves_all : (seats : List Seat) (after : Index) (held : List (tables.Seat MachineState)) → AreSeats seats after held → list_any saves held ≡ saves_in seats
saves_all [] after [] h = refl
saves_all [] after (t ∷ held) h = absurd h
saves_all (s ∷ seats) after [] h = absurd h
saves_all (s ∷ seats) after (t ∷ held) h = ap₂ (λ (a b : Bool). a || b) (saves_same s after t h.0) (saves_all seats after held h.1)

-- ---- all but one

pub seats_but : (seats : List Seat) (after : Index) (held : List (tables.Seat MachineState)) (n : ℕ) → AreSeats seats after held → AreSeats (all_but n seats) after (all_but n held)
seats_but [] after [] n h = tt
seats_but [] after (t ∷ held) n h = absurd h
seats_but (s ∷ seats) after [] n h = absurd h
seats_but (s ∷ seats) after (t ∷ held) zero h = h.1
seats_but (s ∷ seats) after (t ∷ held) (suc n) h = (h.0, seats_but seats after held n h.1)

pub any_but : {A : Type 0} → (p : A → Bool) (xs : List A) (n : ℕ) (d : A) → p (get_or xs n d) ≡ false → list_any p (all_but n xs) ≡ list_any p xs
any_but p [] n d e = refl
any_but p (x ∷ xs) zero d e = sym (ap (λ b. b || list_any p xs) e)
any_but p (x ∷ xs) (suc n) d e = ap (λ b. p x || b) (any_but p xs n d e)

-- the first task that no core holds
pub ready_same : (held : List (tables.Seat MachineState)) (ids : List ℕ) (tasks : List TaskRec) → ((id : ℕ) → list_any (λ c. is_task (task_on c) id) held ≡ queues.is_held ids id) → next_ready held tasks ≡ queues.next_ready ids tasks
ready_same held ids [] e = refl
ready_same held ids (t ∷ tasks) e = at (list_any (λ c. is_task (task_on c) t.id) held) (queues.is_held ids t.id) (e t.id) (ready_same held ids tasks e)
  where
    at : (a b : Bool) → a ≡ b → next_ready held tasks ≡ queues.next_ready ids tasks → cond a (next_ready held tasks) (Some t) ≡ cond (not b) (Some t) (queues.next_ready ids tasks)
    at true true e f = f
    at false false e f = refl
    at true false e f = absurd (cc e)
    at false true e f = absurd (cc e)

-- ---- loops

tasks-append : (xs ys : List Seat) → tasks_in (xs ++ ys) ≡ tasks_in xs ++ tasks_in ys
tasks-append [] ys = refl
tasks-append (s ∷ xs) ys = at (task_in s) (tasks-append xs ys)
  where
    at : (k : Option ℕ) → tasks_in (xs ++ ys) ≡ tasks_in xs ++ tasks_in ys → with_task k (tasks_in (xs ++ ys)) ≡ with_task k (tasks_in xs) ++ tasks_in ys
    at None e = e
    at (Some k) e = ap (λ (ks : List ℕ). k ∷ ks) e

-- one more task, if there is one
pub one_task : (seats : List Seat) (i : ℕ) (d : Seat) (old new : List TaskId) (task : Option TaskId) → i < length seats → map (λ (t : TaskId). t.0) old ≡ tasks_in (take i seats) → option_map (λ (t : TaskId). t.0) task ≡ task_in (get_or seats i d) → new ≡ old ++ listed_if task
    → map (λ (t : TaskId). t.0) new ≡ tasks_in (take (i + 1) seats)
one_task seats i d old new task l h e n =
    ap (map (λ (t : TaskId). t.0)) n ∙ map-append (λ (t : TaskId). t.0) old (listed_if task) ∙ ap₂ (λ (a b : List ℕ). a ++ b) h (at task ∙ ap (λ k. with_task k []) e)
    ∙ sym (tasks-append (take i seats) (get_or seats i d ∷ [])) ∙ ap tasks_in (sym (take_more seats i d l))
  where
    at : (task : Option TaskId) → map (λ (t : TaskId). t.0) (listed_if task) ≡ with_task (option_map (λ (t : TaskId). t.0) task) []
    at None = refl
    at (Some t) = refl

views-append : (xs ys : List Seat) → views_in (xs ++ ys) ≡ views_in xs ++ views_in ys
views-append [] ys = refl
views-append (s ∷ xs) ys = at (view_in s) (views-append xs ys)
  where
    at : (v : Option View) → views_in (xs ++ ys) ≡ views_in xs ++ views_in ys → with_view v (views_in (xs ++ ys)) ≡ with_view v (views_in xs) ++ views_in ys
    at None e = e
    at (Some v) e = ap (λ (vs : List View). v ∷ vs) e

but-here : (xs : List Seat) (s : Seat) → all_but (length xs) (xs ++ s ∷ []) ≡ all_but (length xs) xs
but-here [] s = refl
but-here (x ∷ xs) s = ap (λ (ys : List Seat). x ∷ ys) (but-here xs s)

but-there : (xs : List Seat) (s : Seat) (n : ℕ) → (length xs ≡ n → ⊥) → all_but n (xs ++ s ∷ []) ≡ all_but n xs ++ s ∷ []
but-there [] s zero e = absurd (e refl)
but-there [] s (suc n) e = refl
but-there (x ∷ xs) s zero e = refl
but-there (x ∷ xs) s (suc n) e = ap (λ (ys : List Seat). x ∷ ys) (but-there xs s n (λ f. e (ap suc f)))

but-append : (xs : List Seat) (s : Seat) (n : ℕ) (b : Bool) → nat_eq (length xs) n ≡ b → all_but n (xs ++ s ∷ []) ≡ all_but n xs ++ cond b [] (s ∷ [])
but-append xs s n true e = let f = eqb-true (length xs) n e in subst (λ (k : ℕ). all_but k (xs ++ s ∷ []) ≡ all_but k xs ++ []) f (but-here xs s ∙ sym (append-nil (all_but (length xs) xs)))
but-append xs s n false e = but-there xs s n (eqb-false (length xs) n e)

-- one more view, if there is one
pub one_view : (seats : List Seat) (i n : ℕ) (d : Seat) (old new : List own.View) (view : Option own.View) → i < length seats → map view_of old ≡ views_in (all_but n (take i seats)) → option_map view_of view ≡ cond (nat_eq i n) None (view_in (get_or seats i d)) → new ≡ old ++ listed_if view
    → map view_of new ≡ views_in (all_but n (take (i + 1) seats))
one_view seats i n d old new view l h e is =
    let s = get_or seats i d in
    ap (map view_of) is ∙ map-append view_of old (listed_if view)
    ∙ ap₂ (λ (a b : List View). a ++ b) h (listed view ∙ ap (λ v. with_view v []) e ∙ chosen (nat_eq i n) s)
    ∙ sym (views-append (all_but n (take i seats)) (cond (nat_eq i n) [] (s ∷ [])))
    ∙ ap (λ (k : ℕ). views_in (all_but n (take i seats) ++ cond (nat_eq k n) [] (s ∷ []))) (sym (length-take-le i seats (omega (arith, l))))
    ∙ ap views_in (sym (but-append (take i seats) s n _ refl)) ∙ ap (λ (xs : List Seat). views_in (all_but n xs)) (sym (take_more seats i d l))
  where
    listed : (view : Option own.View) → map view_of (listed_if view) ≡ with_view (option_map view_of view) []
    listed None = refl
    listed (Some v) = refl

    chosen : (b : Bool) (s : Seat) → with_view (cond b None (view_in s)) [] ≡ views_in (cond b [] (s ∷ []))
    chosen true s = refl
    chosen false s = refl

-- What the tables have of a finish that the program's verdict grants.
use Rattle.std.proofs.Common.{◌≡◌, ℕ, ◌+◌, ◌-◌, ◌<◌, Bool, true, false, cond, leb, eqb, ◌||◌, List, [], ◌∷◌, get_or, length, map, slice_index, Option, Some, None, refl, sym, ap, ap₂, ◌∙◌, subst, arith}
use Rattle.std.specs.Prelude.{is_some, unwrap_or}
use Rattle.std.specs.List.{AllByRecursion}
use Rattle.object_sets.specs.ObjectSets.{is_among}
use Rattle.std.proofs.lemmas.Bool.{eqb-true}
use Rattle.rv_core.specs.State.{MachineState}
use Rattle.nv_base.specs.declared.lines.Outcome as base
use Rattle.kernel_model.specs.Cores.{all_but}
use Rattle.kernel_model.specs.Effects.{Run, Write, written}
use Rattle.kernel_model.specs.Intervals.{Interval, is_empty}
use Rattle.kernel_model.specs.Items.{FinishRecord}
use Rattle.kernel_model.specs.Bounds.{raised_by}
use Rattle.kernel_model.specs.Sizes.{Sizes}
use Rattle.kernel_model.specs.Verdicts.{Empty, Granted, Records}
use Rattle.slot_model.specs.Tabled.{View, free_place, full_object, table_finish, table_room, table_verdict}
use Rattle.slot_model.specs.Tabled as tabled
use Rattle.set_model.specs.Views.{outcome_of}
use Rattle.device_model.specs.Words.{Words}
use Rattle.device_model.specs.IndexWords.{Index}
use Rattle.device_model.specs.Commits as commits
use Rattle.shadow_index.specs.declared.plan.Plan.{Plan}
use Rattle.shadow_index.specs.declared.state.State.{State}
use Rattle.shadow_index.specs.States.{index_of}
use Rattle.commit_writer.specs.Afters.{IsAfter, planned_slots}
use Rattle.commit_writer.specs.Afters as afters
use Rattle.table_machine.specs.Tables.{Saves, Tables, sizes_in}
use Rattle.table_machine.specs.Places.{index_after, places_at, plan_in, run_by, seen_in}
use Rattle.table_machine.specs.Places as places
use Rattle.table_machine.specs.Seats.{answered, still, writes_in}
use Rattle.vol_copy.specs.Tries.{run_in}
use Rattle.vol_copy.specs.declared.attempt.Stage.TheVariants as stage
use Rattle.validate.specs.Answers.{IsPlanOf, IsPlanned}
use Rattle.validate.specs.declared.verdict.Verdict.TheVariants as answer
use Rattle.core_seats.specs.declared.seat.Seat as own
use Rattle.core_seats.specs.Others.{saves_in}
use Rattle.core_seats.proofs.Beside.{seats_but, views_all}
use Rattle.kernel_core.specs.Commits.{setting_on}
use Rattle.kernel_core.specs.Deciding.{IsVerdictOn, seen_by}
use Rattle.kernel_core.specs.Keeping.{IsLawful, Keeps}
use Rattle.kernel_core.specs.Turns.{turn_at}
use Rattle.kernel_core.specs.declared.kernel.Kernel.{Kernel}
use Rattle.kernel_core.proofs.AtStage.{on}
use Rattle.kernel_core.proofs.Due.{IsDue, due}
use Rattle.kernel_core.proofs.Turned.{seats_length}
use Rattle.kernel_core.proofs.Waiting.{IsReady, ended_at, others_save, same_item, waits_turn}

-- ---- the finish of a verdict

finish_by : (b : Bool) (f i : FinishRecord) (pending spawns : ℕ) → cond b (Granted f) (Records pending spawns) ≡ Granted i → i ≡ f
finish_by true f i pending spawns e = sym (cc e)
finish_by false f i pending spawns e = absurd (cc e)

finish_in : (sizes : Sizes) (t : tabled.Tables) (task : ℕ) (run : Run) (j : Interval) (full : Option ℕ) (i : FinishRecord) → table_room sizes t task run j full ≡ Granted i → i ≡ table_finish t task run j
finish_in sizes t task run j (Some o) i e = absurd (cc e)
finish_in sizes t task run j None i e = finish_by (leb (t.pending - 1 + length run.spawns) sizes.records) (table_finish t task run j) i t.pending (length run.spawns) e

pub finish_is : (sizes : Sizes) (t : tabled.Tables) (others : List View) (task : ℕ) (reads : Interval) (run : Run) (i : FinishRecord) → table_verdict sizes t others task reads run ≡ Granted i → (j : Interval) × (i ≡ table_finish t task run j)
finish_is sizes t others task reads run i e = let j = raised_by t.bounds run.writes reads in (j, at j (is_empty j) e)
  where
    at : (j : Interval) (b : Bool) → cond b (Empty j.lo (unwrap_or j.hi 0)) (table_room sizes t task run j (full_object sizes t.places others run.writes)) ≡ Granted i → i ≡ table_finish t task run j
    at j true e = absurd (cc e)
    at j false e = finish_in sizes t task run j (full_object sizes t.places others run.writes) i e

-- the index after it
abbrev pub after_at : Kernel → Words → Tables MachineState → ℕ → FinishRecord → Index
after_at k words t n i = index_after (plan_in (sizes_in (setting_on k.set words)) (all_but n t.seats) t.chains) t.index i

abbrev pub writes_at : Kernel → Words → Tables MachineState → ℕ → FinishRecord → ℕ
writes_at k words t n i = length (writes_in (setting_on k.set words) t i (after_at k words t n i))

-- the try on core n finishes so, by this plan
pub record IsGrantedAt (k : Kernel) (words : Words) (t : Tables MachineState) (n : ℕ) (plan : Plan) (s : own.Seat) : Type 0 where
  pub finish : FinishRecord
  pub outcome : base.Outcome
  pub ready : s.attempt.stage ≡ stage.Ready outcome
  pub task : finish.task ≡ s.attempt.task.0
  pub run : finish.run ≡ run_in s.attempt outcome
  pub number : finish.number ≡ t.index.number + 1
  pub first : finish.first ≡ t.index.next
  pub plan_is : IsPlanOf (seen_by k n) (sizes_in (setting_on k.set words)) plan finish
  pub turn : turn_at k words t n ≡ still (Saves finish (after_at k words t n finish) (writes_at k words t n finish))
  pub due : IsDue k words t finish (after_at k words t n finish)

pub granted_at : (k : Kernel) (words : Words) (t : Tables MachineState) (n : ℕ) (plan : Plan) (s : own.Seat) → Keeps k words t → IsLawful k words t → IsReady k n → s ≡ get_or k.seats.items n s → saves_in k.seats.items ≡ false → IsVerdictOn k n (answer.Granted plan)
    → IsGrantedAt k words t n plan s
unfolding IsVerdictOn
granted_at k words t n plan s h lawful g at alone v =
    let x = setting_on k.set words in
    let e = ended_at k words t n h g in
    let o = outcome_of e.outcome in
    let told = v words t h e.of o e.held in
    let i = told.0 in
    let f = finish_is (sizes_in x) (seen_in t.index t.chains) (places.views_in (all_but n t.seats)) e.of.task e.of.interval (run_by e.of o) i told.1 in
    let single = others_save k words t n h g ∙ alone in
    let turn = waits_turn k words t n e.of o false e.held single ∙ ap (answered x t (all_but n t.seats) n e.of.task) told.1 in
    let inside : n < length t.seats = let m = seats_length k.seats.items (index_of k.committed.after) t.seats h.seats in let l = g.inside in omega (arith, l, m) in
    subst (IsGrantedAt k words t n plan) (same_item k.seats.items n g.seat s g.inside g.seat_is at) (record {
      finish = i;
      outcome = e.outcome;
      ready = e.ready;
      task = ap (λ (y : FinishRecord). y.task) f.1 ∙ e.ended.task;
      run = ap (λ (y : FinishRecord). y.run) f.1 ∙ e.ended.run;
      number = ap (λ (y : FinishRecord). y.number) f.1;
      first = ap (λ (y : FinishRecord). y.first) f.1;
      plan_is = told.2;
      turn = turn;
      due = due k words t n i (after_at k words t n i) (writes_at k words t n i) e.of o lawful h.limits (on k words t h g.power).power inside single e.held turn;
    })

-- ---- the slots of its plan

among_written : (ws : List Write) (o : ℕ) → is_among o (map (λ (w : Write). w.object) ws) ≡ is_some (written ws o)
among_written [] o = refl
among_written (w ∷ ws) o = at (eqb w.object o) (among_written ws o)
  where
    at : (b : Bool) → is_among o (map (λ (w : Write). w.object) ws) ≡ is_some (written ws o) → (b || is_among o (map (λ (w : Write). w.object) ws)) ≡ is_some (cond b (Some w.words) (written ws o))
    at true e = refl
    at false e = e

all_among : (P : ℕ → Type 0) (xs : List ℕ) (o : ℕ) → AllByRecursion P xs → is_among o xs ≡ true → P o
all_among P [] o h e = absurd (cc e)
all_among P (x ∷ xs) o h e = at (eqb x o) refl e (all_among P xs o h.1)
  where
    at : (b : Bool) → eqb x o ≡ b → (b || is_among o xs) ≡ true → (is_among o xs ≡ true → P o) → P o
    at true f e rest = subst P (eqb-true x o f) h.0
    at false f e rest = rest e

slots_same : (p : ℕ → Bool) (new : List ℕ) (plan : ℕ → ℕ) (ws : List Write) (o : ℕ) (slots : List ℕ) → ((k : ℕ) → p k ≡ is_some (written ws k)) → ((k : ℕ) → p k ≡ true → slice_index new k ≡ plan k)
    → afters.slots_after p new o slots ≡ places.slots_after plan ws o slots
slots_same p new plan ws o [] h f = refl
slots_same p new plan ws o (slot ∷ slots) h f = ap₂ (λ (x : ℕ) (xs : List ℕ). x ∷ xs) (at (p o) refl) (slots_same p new plan ws (o + 1) slots h f)
  where
    at : (b : Bool) → p o ≡ b → cond (p o) (slice_index new o) slot ≡ cond (is_some (written ws o)) (plan o) slot
    at true e = ap (λ (b : Bool). cond b (slice_index new o) slot) e ∙ f o e ∙ ap (λ (b : Bool). cond b (plan o) slot) (sym e ∙ h o)
    at false e = ap (λ (b : Bool). cond b (slice_index new o) slot) e ∙ ap (λ (b : Bool). cond b (plan o) slot) (sym e ∙ h o)

-- by the plan the written objects go to the tables' slots
pub planned_same : (k : Kernel) (words : Words) (t : Tables MachineState) (n : ℕ) (plan : Plan) (s : own.Seat) → Keeps k words t → IsReady k n → (d : IsGrantedAt k words t n plan s) → (slots : List ℕ)
    → planned_slots plan slots ≡ places.slots_after (plan_in (sizes_in (setting_on k.set words)) (all_but n t.seats) t.chains) d.finish.run.writes 0 slots
planned_same k words t n plan s h g d slots =
    let after = index_of k.committed.after in
    let sizes = sizes_in (setting_on k.set words) in
    let o = on k words t h g.power in
    let views = views_all _ after _ (seats_but k.seats.items after t.seats n h.seats) in
    slots_same (λ (j : ℕ). is_among j plan.written) plan.slots (plan_in sizes (all_but n t.seats) t.chains) d.finish.run.writes 0 slots
    (λ j. ap (is_among j) d.plan_is.written ∙ among_written d.finish.run.writes j)
    (λ j e.
    let one = all_among (λ (j : ℕ). IsPlanned (seen_by k n) sizes j (slice_index plan.slots j)) plan.written j d.plan_is.slots e in
    sym (ap₂ (λ vs chains. unwrap_or (free_place (sizes.slots j) j vs (places_at chains j)) 0) views o.chains ∙ ap (λ (slot : Option ℕ). unwrap_or slot 0) one.free))

-- so the state after it has the tables' index
pub after_is : (k : Kernel) (words : Words) (t : Tables MachineState) (n : ℕ) (plan : Plan) (s : own.Seat) (new : State) → Keeps k words t → IsReady k n → (d : IsGrantedAt k words t n plan s) → IsAfter plan k.committed.state d.finish new → index_of new ≡ after_at k words t n d.finish
after_is k words t n plan s new h g d e =
    let o = on k words t h g.power in
    e ∙ ap (λ (x : Index). commits.index_after x d.finish (planned_slots plan x.slots)) (sym o.index)
    ∙ ap (commits.index_after t.index d.finish) (planned_same k words t n plan s h g d t.index.slots)

-- The commit of a finish begins: what the writer is told, and what may be asked of the state after it.
use Rattle.std.proofs.Common.{◌≡◌, ℕ, zero, suc, ◌+◌, ◌<◌, ◌≤◌, Bool, true, false, cond, ◌++◌, List, [], ◌∷◌, get_or, length, length-append, map, slice_index, sym, ap, ap₂, ◌∙◌, subst, arith}
use Rattle.std.proofs.lemmas.List.{length-map}
use Rattle.object_sets.specs.ObjectSets.{is_among}
use Rattle.rv_core.specs.State.{MachineState}
use Rattle.nv_base.specs.declared.lines.Spawn.{Spawn}
use Rattle.kernel_model.specs.Effects.{Run, Write}
use Rattle.kernel_model.specs.Items.{Entry, FinishRecord}
use Rattle.kernel_model.specs.OpenTasks.{children, others_than}
use Rattle.kernel_model.proofs.ForCallers.{length-children}
use Rattle.set_model.specs.Sets.{TaskSet}
use Rattle.set_model.specs.Views.{spawn_of, task_of}
use Rattle.device_model.specs.Words.{Change, Words}
use Rattle.device_model.specs.Layouts.{Layout}
use Rattle.device_model.specs.IndexWords.{Index}
use Rattle.device_model.specs.Decoding.{Held}
use Rattle.device_model.specs.Commits.{Commit, commit_body, commit_writes, next_root}
use Rattle.device_model.specs.Devices.{Device, IsHeldOn}
use Rattle.shadow_index.specs.declared.plan.Plan.{Plan}
use Rattle.shadow_index.specs.declared.state.State.{State}
use Rattle.shadow_index.specs.States.{index_of}
use Rattle.commit_writer.specs.Afters.{IsAfter, IsGranted, planned_slots, slots_after}
use Rattle.commit_writer.specs.Rooms.{IsTold}
use Rattle.table_machine.specs.Tables.{Tables}
use Rattle.table_machine.specs.Seats.{commit_of}
use Rattle.vol_copy.specs.Tries.{IsFor}
use Rattle.vol_copy.proofs.Commits.{sizes_written, words_written}
use Rattle.validate.proofs.Decided.{objects_written}
use Rattle.validate.specs.declared.verdict.Verdict.TheVariants as answer
use Rattle.core_seats.specs.declared.seat.Seat as own
use Rattle.core_seats.specs.Others.{saves_in}
use Rattle.kernel_core.specs.Deciding.{IsVerdictOn}
use Rattle.kernel_core.specs.Commits.{is_written_by, words_by}
use Rattle.kernel_core.specs.Keeping.{IsLawful, Keeps}
use Rattle.kernel_core.specs.declared.kernel.Kernel.{Kernel}
use Rattle.kernel_core.proofs.AtStage.{kept_at, on}
use Rattle.kernel_core.proofs.Due.{has_ids}
use Rattle.kernel_core.proofs.Granted.{IsGrantedAt, after_at, after_is, granted_at}
use Rattle.kernel_core.proofs.Waiting.{IsReady, same_item}

-- ---- what may be asked of the state after it

pub kept_seat : (k : Kernel) (words : Words) (t : Tables MachineState) (n : ℕ) (s : own.Seat) → Keeps k words t → (g : IsReady k n) → s ≡ get_or k.seats.items n s → IsFor k.set s.attempt
kept_seat k words t n s h g at = subst (λ (x : own.Seat). IsFor k.set x.attempt) (same_item k.seats.items n g.seat s g.inside g.seat_is at) (kept_at k words t n _ h g)

number_is : (k : Kernel) (words : Words) (t : Tables MachineState) (n : ℕ) (plan : Plan) (s : own.Seat) → Keeps k words t → IsReady k n → IsGrantedAt k words t n plan s → plan.granted.number.0 ≡ k.committed.state.number.0 + 1
number_is k words t n plan s h g d =
    ap (λ (e : Entry). e.number) d.plan_is.entry ∙ d.number ∙ ap (λ (x : Index). x.number + 1) (on k words t h g.power).index

first_is : (k : Kernel) (words : Words) (t : Tables MachineState) (n : ℕ) (plan : Plan) (s : own.Seat) → Keeps k words t → IsReady k n → IsGrantedAt k words t n plan s → plan.granted.first.0 ≡ k.committed.state.next.0
first_is k words t n plan s h g d =
    ap (λ (e : Entry). e.first) d.plan_is.entry ∙ d.first ∙ ap (λ (x : Index). x.next) (on k words t h g.power).index

ids_are : (k : Kernel) (words : Words) (t : Tables MachineState) (n : ℕ) (s : own.Seat) (spawns : List Spawn) → Keeps k words t → IsLawful k words t → (g : IsReady k n) → s ≡ get_or k.seats.items n s → spawns ≡ s.attempt.spawns → k.committed.state.next.0 + length spawns < 4294967296
ids_are k words t n s spawns h lawful g at e =
    let o = on k words t h g.power in
    let left = has_ids k words t lawful o.power in
    let next = ap (λ (x : Index). x.next) o.index in
    let few = (kept_seat k words t n s h g at).spawns in
    let same = ap length e in
    omega (arith, left, next, few, same)

-- the spawns of the finish
spawned : (k : Kernel) (words : Words) (t : Tables MachineState) (n : ℕ) (plan : Plan) (s : own.Seat) (spawns : List Spawn) → (d : IsGrantedAt k words t n plan s) → spawns ≡ s.attempt.spawns → d.finish.run.spawns ≡ map spawn_of spawns
spawned k words t n plan s spawns d e = ap (λ (r : Run). r.spawns) d.run ∙ ap (map spawn_of) (sym e)

records_are : (k : Kernel) (words : Words) (t : Tables MachineState) (n : ℕ) (plan : Plan) (s : own.Seat) (spawns : List Spawn) → Keeps k words t → IsReady k n → IsGrantedAt k words t n plan s → spawns ≡ s.attempt.spawns
    → length (others_than plan.granted.task.0 (map task_of k.committed.state.tasks.items)) + length spawns ≤ k.set.records
records_are k words t n plan s spawns h g d e =
    let o = on k words t h g.power in
    let i = d.finish in
    let records = d.due.next.index.records in
    let parts = length-append (others_than i.task t.index.tasks) (children i.first i.run.spawns) in
    let born = length-children i.first i.run.spawns in
    let spawns_are = ap length (spawned k words t n plan s spawns d e) ∙ length-map spawns spawn_of in
    let others = ap₂ (λ (task : ℕ) (x : Index). length (others_than task x.tasks)) (ap (λ (y : Entry). y.task) d.plan_is.entry) (sym o.index) in
    omega (arith, records, parts, born, spawns_are, others)

-- the state is the one after the finish
pub granted_is : (k : Kernel) (words : Words) (t : Tables MachineState) (n : ℕ) (plan : Plan) (s : own.Seat) (spawns : List Spawn) (new : State) → Keeps k words t → IsReady k n → (d : IsGrantedAt k words t n plan s) → spawns ≡ s.attempt.spawns
    → ((i : FinishRecord) → IsGranted plan spawns i → IsAfter plan k.committed.state i new) → index_of new ≡ after_at k words t n d.finish
granted_is k words t n plan s spawns new h g d e makes = after_is k words t n plan s new h g d (makes d.finish (record { entry = sym d.plan_is.entry; spawned = spawned k words t n plan s spawns d e }))

-- all that is asked before the state after a plan's finish is made
pub record MayFinish (k : Kernel) (plan : Plan) (spawns : List Spawn) : Type 0 where
  pub records : length (others_than plan.granted.task.0 (map task_of k.committed.state.tasks.items)) + length spawns ≤ k.set.records
  pub number : plan.granted.number.0 ≡ k.committed.state.number.0 + 1
  pub first : plan.granted.first.0 ≡ k.committed.state.next.0
  pub ids : k.committed.state.next.0 + length spawns < 4294967296

pub may_finish : (k : Kernel) (words : Words) (t : Tables MachineState) (n m : ℕ) (plan : Plan) (s : own.Seat) (spawns : List Spawn) → Keeps k words t → IsLawful k words t → IsReady k n → m ≡ n → s ≡ get_or k.seats.items m s
    → saves_in k.seats.items ≡ false → IsVerdictOn k n (answer.Granted plan) → spawns ≡ s.attempt.spawns → MayFinish k plan spawns
may_finish k words t n m plan s spawns h lawful g same found alone v e =
    let at : s ≡ get_or k.seats.items n s = subst (λ (j : ℕ). s ≡ get_or k.seats.items j s) same found in
    let d = granted_at k words t n plan s h lawful g at alone v in
    record {
      records = records_are k words t n plan s spawns h g d e;
      number = number_is k words t n plan s h g d;
      first = first_is k words t n plan s h g d;
      ids = ids_are k words t n s spawns h lawful g at e;
    }

-- ---- what the writer is told

slot_at : (p : ℕ → Bool) (new : List ℕ) (o : ℕ) (before : List ℕ) (k : ℕ) → k < length before → p (o + k) ≡ true → slice_index (slots_after p new o before) k ≡ slice_index new (o + k)
slot_at p new o [] k l e = absurd (omega (arith, l))
slot_at p new o (x ∷ before) zero l e =
    let z : o + 0 ≡ o = omega arith in
    let here : p o ≡ true = subst (λ (j : ℕ). p j ≡ true) z e in
    ap (λ (b : Bool). cond b (slice_index new o) x) here ∙ ap (slice_index new) (sym z)
slot_at p new o (x ∷ before) (suc k) l e =
    let z : o + suc k ≡ o + 1 + k = omega arith in
    slot_at p new (o + 1) before k (omega (arith, l)) (subst (λ (j : ℕ). p j ≡ true) z e) ∙ ap (slice_index new) (sym z)

-- the objects of the plan are those that the attempt has written
plan_writes : (k : Kernel) (words : Words) (t : Tables MachineState) (n : ℕ) (plan : Plan) (s : own.Seat) → IsGrantedAt k words t n plan s → plan.written ≡ s.attempt.written
plan_writes k words t n plan s d = d.plan_is.written ∙ ap (λ (r : Run). map (λ (w : Write). w.object) r.writes) d.run ∙ objects_written s.attempt.written s.attempt.words

pub is_told : (k : Kernel) (words : Words) (t : Tables MachineState) (n : ℕ) (plan : Plan) (s : own.Seat) (spawns : List Spawn) (new : State) → Keeps k words t → IsReady k n → s ≡ get_or k.seats.items n s → (d : IsGrantedAt k words t n plan s) → spawns ≡ s.attempt.spawns
    → ((i : FinishRecord) → IsGranted plan spawns i → IsAfter plan k.committed.state i new)
    → IsTold k.set plan k.committed.state new d.due.held (commit_of d.finish (after_at k words t n d.finish)) (is_written_by s) (words_by s)
is_told k words t n plan s spawns new h g at d e makes =
    let o = on k words t h g.power in
    let kept = kept_seat k words t n s h g at in
    let same = granted_is k words t n plan s spawns new h g d e makes in
    let planned : index_of new ≡ _ = makes d.finish (record { entry = sym d.plan_is.entry; spawned = spawned k words t n plan s spawns d e }) in
    let slots : (after_at k words t n d.finish).slots ≡ planned_slots plan k.committed.state.slots.items = ap (λ (x : Index). x.slots) (sym same ∙ planned) in
    let written = plan_writes k words t n plan s d in
    record {
      held = subst (λ (y : Device). IsHeldOn y d.due.held) (sym o.device) d.due.is_held;
      next = d.due.next;
      index = d.due.index ∙ o.index;
      root = d.due.root ∙ o.root;
      index_after = sym same;
      writes = ap (λ (r : Run). r.writes) d.run ∙ words_written k.set s.attempt kept;
      written = λ j l. ap (is_among j) (sym written);
      sizes = λ j l w. sizes_written k.set s.attempt kept j l;
      slots = λ j l w.
          let long : length k.committed.state.slots.items ≡ length k.set.objects = o.committed.rooms.state.slots in
          let z : 0 + j ≡ j = omega arith in
          let inside : j < length k.committed.state.slots.items = omega (arith, l, long) in
          sym (ap (λ (xs : List ℕ). slice_index xs j) slots
          ∙ slot_at (λ (m : ℕ). is_among m plan.written) plan.slots 0 k.committed.state.slots.items j inside (ap (λ (m : ℕ). is_among m plan.written) z ∙ ap (is_among j) written ∙ w)
          ∙ ap (slice_index plan.slots) z);
    }

-- ---- the writes of the commit

-- they go by the index and the root before it
pub same_writes : (l : Layout) (set : TaskSet) (h g : Held) (c : Commit) → h.index ≡ g.index → h.root ≡ g.root → commit_writes l set h c ≡ commit_writes l set g c
unfolding commit_writes
same_writes l set h g c e f = ap₂ (λ (x : Index) (r : ℕ). let y : Held = record { index = x; objects = h.objects; boots = h.boots; root = r } in commit_body l set y c ++ (let w : Change = (l.root, next_root l set y c) in w ∷ [])) e f

-- the root is always written
pub some_writes : (l : Layout) (set : TaskSet) (h : Held) (c : Commit) → 0 < length (commit_writes l set h c)
unfolding commit_writes
some_writes l set h c = let e = length-append (commit_body l set h c) (let w : Change = (l.root, next_root l set h c) in w ∷ []) in omega (arith, e)

-- The verdict of the table machine, case by case.
use Rattle.std.proofs.Common.{◌≡◌, ℕ, ◌+◌, ◌-◌, Bool, true, false, cond, leb, List, [], ◌∷◌, length, Option, Some, None, refl, sym, ap, ap₂, ◌∙◌, subst, arith}
use Rattle.std.specs.Prelude.{unwrap_or, slice_index}
use Rattle.std.specs.List.{AllByRecursion}
use Rattle.std.proofs.lemmas.List.{length-map}
use Rattle.object_sets.specs.ObjectSets.{AreBelow, IsIncreasing}
use Rattle.nv_base.specs.declared.lines.Outcome.{Outcome}
use Rattle.rv_core.specs.State.{MachineState}
use Rattle.kernel_model.specs.Sizes.{Sizes}
use Rattle.kernel_model.specs.Effects.{Objects, Run, Write}
use Rattle.kernel_model.specs.Intervals.{Interval, is_empty, point_of}
use Rattle.kernel_model.specs.Bounds.{raised_by}
use Rattle.kernel_model.specs.Verdicts.{Verdict, Granted, Empty, Slots, Records}
use Rattle.slot_model.specs.Tabled.{full_object, table_finish, table_room, table_verdict}
use Rattle.set_model.specs.Views.{entry_of, outcome_of, spawn_of}
use Rattle.shadow_index.specs.declared.plan.Plan.{Plan}
use Rattle.table_machine.specs.Tables.{Try, chain_at}
use Rattle.table_machine.specs.Places.{places_at, run_by}
use Rattle.task_queue.specs.Queues.{has_room}
use Rattle.ver_table.specs.Tabled.{all_tabled}
use Rattle.vol_copy.specs.Tries.{IsEndedTry, run_in, writes_in}
use Rattle.vol_copy.specs.declared.attempt.Attempt.{Attempt}
use Rattle.set_model.specs.Sets.{ObjPart, TaskSet}
use Rattle.ver_table.specs.Chains.{Chain}
use Rattle.validate.specs.Answers.{AreForOne, AreSizes, IsPlanOf, IsPlanned, Seen, tables_in}
use Rattle.validate.specs.Plans.{HaveSlots, IsFull}
use Rattle.validate.proofs.Fulls.{each_among, free_place_is, none_full, one_full}
use Rattle.validate.proofs.Raises.{among_below, objects_in}

-- what an attempt has written
abbrev pub writes_by : Attempt → List Write
writes_by a = writes_in a.written a.words

pub objects_written : (written : List ℕ) (words : Objects) → objects_in (writes_in written words) ≡ written
objects_written [] words = refl
objects_written (o ∷ written) words = ap (λ (os : List ℕ). o ∷ os) (objects_written written words)

-- the verdict of a finish with this interval
abbrev pub decided : (s : Seen) (sizes : Sizes) (task : ℕ) → Run → Interval → Verdict
decided s sizes task run i = cond (is_empty i) (Empty i.lo (unwrap_or i.hi 0)) (table_room sizes (tables_in s) task run i (full_object sizes (places_at (all_tabled s.chains)) s.others run.writes))

-- the bounds that a verdict looks at
abbrev pub bounds_in : Seen → ℕ → ℕ
bounds_in s o = (chain_at (all_tabled s.chains) o).bound

-- a verdict is asked, where the interval of the finish is this one
pub record IsAsked (s : Seen) (sizes : Sizes) (a : Attempt) (reads i : Interval) (o : Outcome) (t : Try MachineState) : Type 0 where
  pub sizes_are : AreSizes s sizes
  pub ended : IsEndedTry a o t
  pub reads_are : t.interval ≡ reads
  pub raised : i ≡ raised_by (bounds_in s) (writes_by a) reads

pub verdict_is : (s : Seen) (sizes : Sizes) (a : Attempt) (reads i : Interval) (o : Outcome) (t : Try MachineState) → IsAsked s sizes a reads i o t
    → table_verdict sizes (tables_in s) s.others t.task t.interval (run_by t (outcome_of o)) ≡ decided s sizes a.task.0 (run_in a o) i
verdict_is s sizes a reads i o t h =
    ap (λ (n : ℕ). table_verdict sizes (tables_in s) s.others n t.interval (run_by t (outcome_of o))) h.ended.task
    ∙ ap (λ (j : Interval). table_verdict sizes (tables_in s) s.others a.task.0 j (run_by t (outcome_of o))) h.reads_are
    ∙ ap (table_verdict sizes (tables_in s) s.others a.task.0 reads) h.ended.run
    ∙ ap (decided s sizes a.task.0 (run_in a o)) (sym h.raised)

-- no point is in it
pub is_refused : (s : Seen) (sizes : Sizes) (task : ℕ) (run : Run) (i : Interval) (hi : ℕ) → is_empty i ≡ true → hi ≡ unwrap_or i.hi 0 → decided s sizes task run i ≡ Empty i.lo hi
is_refused s sizes task run i hi e f =
    ap (λ (b : Bool). cond b (Empty i.lo (unwrap_or i.hi 0)) (table_room sizes (tables_in s) task run i (full_object sizes (places_at (all_tabled s.chains)) s.others run.writes))) e
    ∙ ap (Empty i.lo) (sym f)

-- one is
pub is_open : (s : Seen) (sizes : Sizes) (task : ℕ) (run : Run) (i : Interval) (full : Option ℕ) → is_empty i ≡ false → full_object sizes (places_at (all_tabled s.chains)) s.others run.writes ≡ full → decided s sizes task run i ≡ table_room sizes (tables_in s) task run i full
is_open s sizes task run i full e f =
    ap (λ (b : Bool). cond b (Empty i.lo (unwrap_or i.hi 0)) (table_room sizes (tables_in s) task run i (full_object sizes (places_at (all_tabled s.chains)) s.others run.writes))) e
    ∙ ap (table_room sizes (tables_in s) task run i) f

-- the test of the records
room_is : (s : Seen) (sizes : Sizes) (task : ℕ) (run : Run) (i : Interval) (n : ℕ) (b : Bool) → AreSizes s sizes → length run.spawns ≡ n → has_room n s.queue ≡ b
    → table_room sizes (tables_in s) task run i None ≡ cond b (Granted (table_finish (tables_in s) task run i)) (Records (length s.queue.tasks) n)
room_is s sizes task run i n b h l e =
    ap₂ (λ (k r : ℕ). cond (leb (length s.queue.tasks - 1 + k) r) (Granted (table_finish (tables_in s) task run i)) (Records (length s.queue.tasks) k)) l h.records
    ∙ ap (λ (c : Bool). cond c (Granted (table_finish (tables_in s) task run i)) (Records (length s.queue.tasks) n)) e

-- so the verdict is told
pub answered_empty : (s : Seen) (sizes : Sizes) (a : Attempt) (reads i : Interval) (o : Outcome) (t : Try MachineState) (hi : ℕ) → IsAsked s sizes a reads i o t → is_empty i ≡ true → hi ≡ unwrap_or i.hi 0
    → table_verdict sizes (tables_in s) s.others t.task t.interval (run_by t (outcome_of o)) ≡ Empty i.lo hi
answered_empty s sizes a reads i o t hi h e f = verdict_is s sizes a reads i o t h ∙ is_refused s sizes a.task.0 (run_in a o) i hi e f

-- what the attempt has written: objects of the table, increasing
pub record AreWritten (s : Seen) (a : Attempt) : Type 0 where
  pub below : AreBelow (length s.chains) a.written
  pub increasing : IsIncreasing a.written

below_is : (s : Seen) (a : Attempt) → AreWritten s a → AreBelow (length s.chains) (objects_in (writes_by a))
below_is s a w = subst (AreBelow (length s.chains)) (sym (objects_written a.written a.words)) w.below

pub answered_slots : (s : Seen) (sizes : Sizes) (a : Attempt) (reads i : Interval) (o : Outcome) (t : Try MachineState) (x : ℕ) → IsAsked s sizes a reads i o t → AreWritten s a → is_empty i ≡ false → IsFull s.chains s.others a.written x
    → table_verdict sizes (tables_in s) s.others t.task t.interval (run_by t (outcome_of o)) ≡ Slots x
answered_slots s sizes a reads i o t x h w e full =
    let same = sym (objects_written a.written a.words) in
    verdict_is s sizes a reads i o t h
    ∙ is_open s sizes a.task.0 (run_in a o) i (Some x) e
    (one_full s sizes (writes_by a) x h.sizes_are (below_is s a w) (subst IsIncreasing same w.increasing) (subst (λ os. IsFull s.chains s.others os x) same full))

-- where each written object has a slot the records decide
pub answered_room : (s : Seen) (sizes : Sizes) (a : Attempt) (reads i : Interval) (o : Outcome) (t : Try MachineState) (slots : List ℕ) (b : Bool) → IsAsked s sizes a reads i o t → AreWritten s a → is_empty i ≡ false → HaveSlots s.chains s.others a.written slots
    → has_room (length a.spawns) s.queue ≡ b
    → table_verdict sizes (tables_in s) s.others t.task t.interval (run_by t (outcome_of o)) ≡ cond b (Granted (table_finish (tables_in s) a.task.0 (run_in a o) i)) (Records (length s.queue.tasks) (length a.spawns))
answered_room s sizes a reads i o t slots b h w e have room =
    let same = sym (objects_written a.written a.words) in
    verdict_is s sizes a reads i o t h
    ∙ is_open s sizes a.task.0 (run_in a o) i None e (none_full s sizes (writes_by a) slots h.sizes_are (below_is s a w) (subst (λ os. HaveSlots s.chains s.others os slots) same have))
    ∙ room_is s sizes a.task.0 (run_in a o) i (length a.spawns) b h.sizes_are (length-map a.spawns spawn_of) room

-- the plan of the finish that is granted
pub granted_plan : (s : Seen) (sizes : Sizes) (a : Attempt) (i : Interval) (o : Outcome) (plan : Plan) → AreSizes s sizes → AreWritten s a → plan.written ≡ a.written → HaveSlots s.chains s.others a.written plan.slots
    → entry_of plan.granted ≡ record { number = s.number + 1; task = a.task.0; point = point_of s.clock (writes_by a) i; first = s.queue.next; outcome = outcome_of o }
    → IsPlanOf s sizes plan (table_finish (tables_in s) a.task.0 (run_in a o) i)
granted_plan s sizes a i o plan sizes_are w same have entry = record {
  entry = entry;
  written = same ∙ sym (objects_written a.written a.words);
  slots = subst (AllByRecursion (λ x. IsPlanned s sizes x (slice_index plan.slots x))) (sym same) (each_among (λ x. IsPlanned s sizes x (slice_index plan.slots x)) a.written (λ x e.
      let one = have x e in
      record {
        free = free_place_is s sizes sizes_are x (among_below (length s.chains) a.written w.below x e) ∙ one.free;
        inside = one.inside;
        older = one.older;
      }));
}

-- an attempt for the table's set has written so
pub are_written : (s : Seen) (set : TaskSet) (a : Attempt) → AreForOne set s.chains a → AreWritten s a
are_written s set a h =
    let chains = length-map s.chains (λ (c : Chain). c.slots) in
    let objects = length-map set.objects (λ (p : ObjPart). p.slots) in
    let same : length set.objects ≡ length s.chains = omega (arith, chains, objects, ap length h.table) in
    record { below = subst (λ (n : ℕ). AreBelow n a.written) same h.attempt.written; increasing = h.attempt.increasing }

-- The commit of a finish may follow the state before it.
use Rattle.std.proofs.Common.{◌≡◌, ℕ, zero, suc, ◌+◌, ◌<◌, Bool, true, false, cond, eqb, List, [], ◌∷◌, length, length-append, slice_index, Option, Some, None, refl, sym, ap, ◌∙◌, arith}
use Rattle.std.specs.List.{AllByRecursion}
use Rattle.std.proofs.lemmas.Bool.{eqb-true}
use Rattle.object_sets.specs.ObjectSets.{is_among}
use Rattle.kernel_model.specs.Effects.{Spawn, Write, written}
use Rattle.kernel_model.specs.Sizes.{Sizes}
use Rattle.kernel_model.specs.Items.{FinishRecord}
use Rattle.kernel_model.specs.Replay.{DeviceState, TaskRec, task_under}
use Rattle.kernel_model.specs.OpenTasks.{children, others_than}
use Rattle.kernel_model.specs.History.{IsNumbered}
use Rattle.kernel_model.specs.Fit.{IsWrite}
use Rattle.kernel_model.proofs.ForCallers.{length-children, open_order, written-size}
use Rattle.kernel_model.proofs.OpenLaws.{open_old, open_positive, open_programs}
use Rattle.kernel_model.proofs.Theorem.{task_under-below}
use Rattle.set_model.specs.Sets.{TaskSet, object_at}
use Rattle.set_model.specs.Numbers.{sizes_of}
use Rattle.device_model.specs.IndexWords.{Index, IsIndex, base_of}
use Rattle.device_model.specs.Decoding.{Held}
use Rattle.device_model.specs.Commits.{IsNext, commit_of, index_after}
use Rattle.device_model.specs.Devices.{IsHeldOn}
use Rattle.device_model.proofs.ForCallers.{by-written}
use Rattle.shadow_index.specs.declared.plan.Plan.{Plan}
use Rattle.shadow_index.specs.declared.state.State.{State}
use Rattle.shadow_index.specs.States.{index_of}
use Rattle.shadow_index.specs.Tells.{device_of}
use Rattle.commit_writer.specs.Afters.{AreNextSlots, IsAfter, IsNextFinish, IsPlanned, planned_slots, slots_after}
use Rattle.commit_writer.specs.Rooms.{IsTold}
use Rattle.commit_writer.proofs.Finishing.{length-slots}

-- ---- the index

under_positive : (tasks : List TaskRec) → AllByRecursion (λ t. 0 < t.id) tasks → (id : ℕ) (s : Spawn) → task_under tasks id ≡ Some s → 0 < id
under_positive [] h id s e = absurd (cc e)
under_positive (t ∷ tasks) h id s e = go (under_positive tasks h.1 id s) (eqb t.id id) refl e
  where
    go : (task_under tasks id ≡ Some s → 0 < id) → (b : Bool) → eqb t.id id ≡ b → cond b (Some (let r : Spawn = record { program = t.program; arg = t.arg } in r)) (task_under tasks id) ≡ Some s → 0 < id
    go rest true f e = let same : t.id ≡ id = eqb-true t.id id f in omega (arith, h.0, same)
    go rest false f e = rest e

numbered : (set : TaskSet) (x : Index) (i : FinishRecord) → IsIndex set x → IsNextFinish set x i → IsNumbered (base_of x []) (i ∷ [])
numbered set x i h f =
    let below : i.task < x.next = task_under-below x.next x.tasks h.old i.task f.task f.open_ in
    ((omega (arith, f.number), f.first, tt), (omega (arith, f.first, below), tt))

next_index : (set : TaskSet) (x : Index) (i : FinishRecord) (slots : List ℕ) → IsIndex set x → IsNextFinish set x i
    → length slots ≡ length set.objects → ((o : ℕ) → o < length set.objects → slice_index slots o < (object_at set o).slots)
    → IsIndex set (index_after x i slots)
next_index set x i slots h f long named =
    let base : DeviceState = base_of x [] in
    let n = numbered set x i h f in
    let below : i.task < x.next = task_under-below x.next x.tasks h.old i.task f.task f.open_ in
    record {
      clock = omega (arith, h.clock, f.point);
      next = omega (arith, h.next);
      last = record {
        number = f.number;
        counted = omega arith;
        task = under_positive x.tasks h.positive i.task f.task f.open_;
        older = omega (arith, f.first, below);
        first = omega (arith, f.first);
        children = omega (arith, f.first, f.run.spawns);
        point = omega arith;
        outcome = f.run.outcome;
      };
      slots = long;
      named = named;
      records = omega (arith, f.records, length-append (others_than i.task x.tasks) (children i.first i.run.spawns), length-children i.first i.run.spawns);
      in_order = open_order base h.old h.in_order (i ∷ []) n;
      positive = open_positive base h.next h.positive (i ∷ []) n;
      old = open_old base h.old (i ∷ []) n;
      programs = open_programs (sizes_of set) base h.programs (i ∷ []) (f.run, tt);
    }

-- ---- the commit

written-object : (sizes : Sizes) (ws : List Write) (o : ℕ) (words : List ℕ) → AllByRecursion (IsWrite sizes) ws → written ws o ≡ Some words → o < sizes.objects
written-object sizes [] o words h e = absurd (cc e)
written-object sizes (w ∷ ws) o words h e = go (written-object sizes ws o words h.1) (eqb w.object o) refl e
  where
    go : (written ws o ≡ Some words → o < sizes.objects) → (b : Bool) → eqb w.object o ≡ b → cond b (Some w.words) (written ws o) ≡ Some words → o < sizes.objects
    go rest true f e = let at : w.object ≡ o = eqb-true w.object o f in omega (arith, h.0.object, at)
    go rest false f e = rest e

pub finish_next : (set : TaskSet) (h : Held) (i : FinishRecord) (slots : List ℕ) → IsIndex set h.index → IsNextFinish set h.index i
    → AreNextSlots set i.run.writes h.index.slots slots → IsNext set h (commit_of h i slots)
finish_next set h i slots x f s = record {
  index = next_index set h.index i slots x f s.long (λ o l. named o l (written i.run.writes o) refl);
  in_order = f.run.in_order;
  writes = f.run.writes;
  other_slot = λ o words e. s.other o words (written-object (sizes_of set) i.run.writes o words f.run.writes e) e;
  same_slot = s.same;
}
  where
    named : (o : ℕ) → o < length set.objects → (w : Option (List ℕ)) → written i.run.writes o ≡ w → slice_index slots o < (object_at set o).slots
    named o l (Some words) e = s.named o words l e
    named o l None e = let same : slice_index slots o ≡ slice_index h.index.slots o = s.same o l e in omega (arith, same, x.named o l)

-- ---- the slots of a plan

slot_at : (p : ℕ → Bool) (new : List ℕ) (o : ℕ) (before : List ℕ) (k : ℕ) → k < length before → slice_index (slots_after p new o before) k ≡ cond (p (o + k)) (slice_index new (o + k)) (slice_index before k)
slot_at p new o [] k l = absurd (omega arith)
slot_at p new o (x ∷ before) zero l = let e : o ≡ o + 0 = omega arith in ap (λ (n : ℕ). cond (p n) (slice_index new n) x) e
slot_at p new o (x ∷ before) (suc k) l =
    let e : o + 1 + k ≡ o + suc k = omega arith in
    slot_at p new (o + 1) before k (omega arith) ∙ ap (λ (n : ℕ). cond (p n) (slice_index new n) (slice_index before k)) e

planned_at : (set : TaskSet) (plan : Plan) (x : Index) (i : FinishRecord) (isw : ℕ → Bool) (words : ℕ → List ℕ) → IsIndex set x → IsPlanned set plan x i isw words
    → (o : ℕ) → o < length set.objects → slice_index (planned_slots plan x.slots) o ≡ cond (isw o) (slice_index plan.slots o) (slice_index x.slots o)
planned_at set plan x i isw words h p o l =
    let e : 0 + o ≡ o = omega arith in
    slot_at (λ k. is_among k plan.written) plan.slots 0 x.slots o (omega (arith, l, h.slots))
    ∙ ap (λ (n : ℕ). cond (is_among n plan.written) (slice_index plan.slots n) (slice_index x.slots o)) e
    ∙ ap (λ (b : Bool). cond b (slice_index plan.slots o) (slice_index x.slots o)) (sym (p.written o l))

written_at : (set : TaskSet) (plan : Plan) (x : Index) (i : FinishRecord) (isw : ℕ → Bool) (words : ℕ → List ℕ) → IsPlanned set plan x i isw words
    → (o : ℕ) → o < length set.objects → written i.run.writes o ≡ cond (isw o) (Some (words o)) None
written_at set plan x i isw words p o l =
    ap (λ (ws : List Write). written ws o) p.writes ∙ by-written isw words 0 (length set.objects) o (omega arith) (omega (arith, l))

pub slots_planned : (set : TaskSet) (plan : Plan) (x : Index) (i : FinishRecord) (isw : ℕ → Bool) (words : ℕ → List ℕ) → IsIndex set x → IsPlanned set plan x i isw words
    → AreNextSlots set i.run.writes x.slots (planned_slots plan x.slots)
slots_planned set plan x i isw words h p = record {
  long = length-slots (λ k. is_among k plan.written) plan.slots 0 x.slots ∙ h.slots;
  named = λ o ws l e. let t = is o ws l e (isw o) refl in let s = new o l t in omega (arith, s, p.named o l t);
  other = λ o ws l e f. let t = is o ws l e (isw o) refl in p.other o l t (sym (new o l t) ∙ f);
  same = λ o l e. old o l (isn o l e (isw o) refl);
}
  where
    after : List ℕ
    after = planned_slots plan x.slots

    is : (o : ℕ) (ws : List ℕ) → o < length set.objects → written i.run.writes o ≡ Some ws → (b : Bool) → isw o ≡ b → isw o ≡ true
    is o ws l e true f = f
    is o ws l e false f = let g : None ≡ Some ws = ap (λ (b : Bool). cond b (Some (words o)) None) (sym f) ∙ sym (written_at set plan x i isw words p o l) ∙ e in absurd (cc g)

    isn : (o : ℕ) → o < length set.objects → written i.run.writes o ≡ None → (b : Bool) → isw o ≡ b → isw o ≡ false
    isn o l e false f = f
    isn o l e true f = let g : Some (words o) ≡ None = ap (λ (b : Bool). cond b (Some (words o)) None) (sym f) ∙ sym (written_at set plan x i isw words p o l) ∙ e in absurd (cc g)

    new : (o : ℕ) → o < length set.objects → isw o ≡ true → slice_index after o ≡ slice_index plan.slots o
    new o l t = planned_at set plan x i isw words h p o l ∙ ap (λ (b : Bool). cond b (slice_index plan.slots o) (slice_index x.slots o)) t

    old : (o : ℕ) → o < length set.objects → isw o ≡ false → slice_index after o ≡ slice_index x.slots o
    old o l t = planned_at set plan x i isw words h p o l ∙ ap (λ (b : Bool). cond b (slice_index plan.slots o) (slice_index x.slots o)) t

-- ---- what begins it

pub finish_told : (set : TaskSet) (plan : Plan) (before after : State) (h : Held) (i : FinishRecord) (isw : ℕ → Bool) (words : ℕ → List ℕ)
    → IsHeldOn (device_of set before.shift) h → h.index ≡ index_of before → h.root ≡ before.root
    → IsPlanned set plan h.index i isw words → IsAfter plan before i after
    → IsTold set plan before after h (commit_of h i (planned_slots plan h.index.slots)) isw words
finish_told set plan before after h i isw words held index root p a = record {
  held = held;
  next = finish_next set h i (planned_slots plan h.index.slots) held.index p.finish (slots_planned set plan h.index i isw words held.index p);
  index = index;
  root = root;
  index_after = ap (λ (x : Index). index_after x i (planned_slots plan x.slots)) index ∙ sym a;
  writes = p.writes;
  written = p.written;
  sizes = λ o l t. written-size (sizes_of set) i.run.writes o (words o) p.finish.run.writes (written_at set plan h.index i isw words p o l ∙ ap (λ (b : Bool). cond b (Some (words o)) None) t);
  slots = λ o l t. sym (planned_at set plan h.index i isw words held.index p o l ∙ ap (λ (b : Bool). cond b (slice_index plan.slots o) (slice_index h.index.slots o)) t);
}

-- The tasks, the slots and the index after a finish.
use Rattle.std.proofs.Common.{◌≡◌, ℕ, suc, ◌+◌, ◌<◌, Bool, cond, eqb, not, List, [], ◌∷◌, ◌++◌, length, length-append, map, max, take, get_or, slice_index, Option, Some, refl, sym, ap, ap₂, ◌∙◌, arith, append_assoc}
use Rattle.std.proofs.lemmas.List.{length-map, length-take-le, map-append, take_more}
use Rattle.std.proofs.lemmas.List.Elements.{filter-append}
use Rattle.nv_base.specs.declared.lines.Spawn as base_spawn
use Rattle.nv_base.specs.declared.lines.TaskRec as base_task
use Rattle.kernel_model.specs.Effects.{Spawn}
use Rattle.kernel_model.specs.Items.{Entry, FinishRecord}
use Rattle.kernel_model.specs.Replay.{TaskRec}
use Rattle.kernel_model.specs.OpenTasks.{children, others_than}
use Rattle.kernel_model.proofs.ForCallers.{length-children}
use Rattle.set_model.specs.Views.{entry_if, spawn_of, task_of}
use Rattle.set_model.specs.Views as views
use Rattle.device_model.specs.IndexWords.{Index}
use Rattle.shadow_index.specs.declared.plan.Plan.{Plan}
use Rattle.shadow_index.specs.declared.state.State.{State}
use Rattle.commit_writer.specs.Afters.{IsAfter, IsGranted, planned_slots, slots_after}

-- ---- slots

slots-append : (p : ℕ → Bool) (new : List ℕ) (o : ℕ) (xs ys : List ℕ) → slots_after p new o (xs ++ ys) ≡ slots_after p new o xs ++ slots_after p new (o + length xs) ys
slots-append p new o [] ys = let e : o ≡ o + 0 = omega arith in ap (λ (k : ℕ). slots_after p new k ys) e
slots-append p new o (x ∷ xs) ys =
    let e : o + 1 + length xs ≡ o + suc (length xs) = omega arith in
    ap (λ (rest : List ℕ). cond (p o) (slice_index new o) x ∷ rest)
    (slots-append p new (o + 1) xs ys ∙ ap (λ (k : ℕ). slots_after p new (o + 1) xs ++ slots_after p new k ys) e)

-- one slot more
pub slot_added : (p : ℕ → Bool) (new before : List ℕ) (o d : ℕ) → o < length before
    → slots_after p new 0 (take o before) ++ cond (p o) (slice_index new o) (get_or before o d) ∷ [] ≡ slots_after p new 0 (take (o + 1) before)
slot_added p new before o d l =
    let x : ℕ = get_or before o d in
    let count : o ≡ 0 + length (take o before) = omega (arith, length-take-le o before (omega (arith, l))) in
    ap (λ (k : ℕ). slots_after p new 0 (take o before) ++ cond (p k) (slice_index new k) x ∷ []) count
    ∙ sym (slots-append p new 0 (take o before) (x ∷ []))
    ∙ ap (slots_after p new 0) (sym (take_more before o d l))

-- ---- tasks

-- one task more is looked at
pub other_added : (task : ℕ) (xs : List base_task.TaskRec) (i : ℕ) (d : base_task.TaskRec) → i < length xs
    → (let x = get_or xs i d in others_than task (map task_of (take (i + 1) xs)) ≡ others_than task (map task_of (take i xs)) ++ cond (not (eqb x.id.0 task)) (task_of x ∷ []) [])
other_added task xs i d l =
    let x = get_or xs i d in
    ap (λ (ts : List base_task.TaskRec). others_than task (map task_of ts)) (take_more xs i d l)
    ∙ ap (others_than task) (map-append task_of (take i xs) (x ∷ []))
    ∙ filter-append (λ t. not (eqb t.id task)) (map task_of (take i xs)) (task_of x ∷ [])

children-append : (first : ℕ) (xs ys : List Spawn) → children first (xs ++ ys) ≡ children first xs ++ children (first + length xs) ys
children-append first [] ys = let e : first ≡ first + 0 = omega arith in ap (λ (n : ℕ). children n ys) e
children-append first (x ∷ xs) ys =
    let e : first + 1 + length xs ≡ first + suc (length xs) = omega arith in
    let t : TaskRec = record { id = first; program = x.program; arg = x.arg } in
    ap (λ (rest : List TaskRec). t ∷ rest)
    (children-append (first + 1) xs ys ∙ ap (λ (n : ℕ). children (first + 1) xs ++ children n ys) e)

-- one child more
pub child_added : (old now : List TaskRec) (first id i : ℕ) (spawns : List base_spawn.Spawn) (d : base_spawn.Spawn) → i < length spawns
    → now ≡ old ++ children first (map spawn_of (take i spawns)) → id ≡ first + i
    → (let s = get_or spawns i d in now ++ record { id = id; program = s.program.0; arg = s.arg } ∷ [] ≡ old ++ children first (map spawn_of (take (i + 1) spawns)))
child_added old now first id i spawns d l queue same =
    let s = get_or spawns i d in
    let before : List Spawn = map spawn_of (take i spawns) in
    let made : ℕ → List TaskRec = λ n. record { id = n; program = s.program.0; arg = s.arg } ∷ [] in
    let count : length before ≡ i = length-map (take i spawns) spawn_of ∙ length-take-le i spawns (omega (arith, l)) in
    let place : id ≡ first + length before = omega (arith, count, same) in
    let more : map spawn_of (take (i + 1) spawns) ≡ before ++ spawn_of s ∷ [] = ap (map spawn_of) (take_more spawns i d l) ∙ map-append spawn_of (take i spawns) (s ∷ []) in
    ap (λ (q : List TaskRec). q ++ made id) queue ∙ append_assoc old (children first before) (made id) ∙ ap (λ (n : ℕ). old ++ (children first before ++ made n)) place
    ∙ ap (λ (rest : List TaskRec). old ++ rest) (sym (children-append first before (spawn_of s ∷ []))) ∙ ap (λ (xs : List Spawn). old ++ children first xs) (sym more)

-- ---- the index

made_of : (clock number next : ℕ) → Option Entry → List ℕ → List TaskRec → Index
made_of clock number next last slots tasks = record { clock = clock; number = number; next = next; last = last; slots = slots; tasks = tasks }

after_by : State → List ℕ → Entry → List Spawn → Index
after_by s slots e spawns =
    made_of (max e.point s.clock.0) (s.number.0 + 1) (s.next.0 + length spawns) (Some e) slots
    (others_than e.task (map task_of s.tasks.items) ++ children e.first spawns)

pub index_made : (plan : Plan) (spawns : List base_spawn.Spawn) (before after : State) (i : FinishRecord) → IsGranted plan spawns i
    → after.clock.0 ≡ max plan.granted.point.0 before.clock.0
    → after.number.0 ≡ before.number.0 + 1
    → after.next.0 ≡ before.next.0 + length spawns
    → after.last ≡ Some plan.granted
    → after.slots.items ≡ planned_slots plan before.slots.items
    → map task_of after.tasks.items ≡ others_than plan.granted.task.0 (map task_of before.tasks.items) ++ children plan.granted.first.0 (map spawn_of spawns)
    → IsAfter plan before i after
unfolding made_of after_by
index_made plan spawns before after i g clock number next last slots tasks =
    let all : List Spawn = map spawn_of spawns in
    let e : Entry = views.entry_of plan.granted in
    let s : List ℕ = planned_slots plan before.slots.items in
    let count : after.next.0 ≡ before.next.0 + length all = omega (arith, next, length-map spawns spawn_of) in
    ap (λ (n : ℕ). made_of n after.number.0 after.next.0 (entry_if after.last) after.slots.items (map task_of after.tasks.items)) clock
    ∙ ap (λ (n : ℕ). made_of (max e.point before.clock.0) n after.next.0 (entry_if after.last) after.slots.items (map task_of after.tasks.items)) number
    ∙ ap (λ (n : ℕ). made_of (max e.point before.clock.0) (before.number.0 + 1) n (entry_if after.last) after.slots.items (map task_of after.tasks.items)) count
    ∙ ap (λ (o : Option Entry). made_of (max e.point before.clock.0) (before.number.0 + 1) (before.next.0 + length all) o after.slots.items (map task_of after.tasks.items)) (ap entry_if last)
    ∙ ap (λ (xs : List ℕ). made_of (max e.point before.clock.0) (before.number.0 + 1) (before.next.0 + length all) (Some e) xs (map task_of after.tasks.items)) slots
    ∙ ap (made_of (max e.point before.clock.0) (before.number.0 + 1) (before.next.0 + length all) (Some e) s) tasks
    ∙ sym (ap₂ (after_by before s) g.entry g.spawned)

pub length-slots : (p : ℕ → Bool) (new : List ℕ) (o : ℕ) (before : List ℕ) → length (slots_after p new o before) ≡ length before
length-slots p new o [] = refl
length-slots p new o (x ∷ before) = ap suc (length-slots p new (o + 1) before)

-- as many tasks
pub length-tasks : (tasks : List base_task.TaskRec) (others : List TaskRec) (first : ℕ) (spawns : List base_spawn.Spawn) → map task_of tasks ≡ others ++ children first (map spawn_of spawns) → length tasks ≡ length others + length spawns
length-tasks tasks others first spawns e =
    omega (arith, length-map tasks task_of, ap length e, length-append others (children first (map spawn_of spawns)), length-children first (map spawn_of spawns), length-map spawns spawn_of)

-- The open tasks of a state, as a queue of them, and the slots that it names.
use Rattle.std.proofs.Common.{◌≡◌, ℕ, zero, suc, ◌+◌, ◌<◌, ◌≤◌, List, [], ◌∷◌, length, map, get_or, take, replicate, refl, sym, ap, ◌∙◌, arith}
use Rattle.std.specs.Prelude.{slice_index}
use Rattle.std.specs.List.{AllByRecursion}
use Rattle.std.proofs.lemmas.List.{get_or-replicate, length-map, length-replicate, take-replicate}
use Rattle.kernel_model.specs.Replay.{TaskRec}
use Rattle.set_model.specs.Sets.{ObjPart, TaskSet, object_at}
use Rattle.set_model.specs.Limits.{IsTaskSet}
use Rattle.set_model.specs.Views.{spawn_of}
use Rattle.device_model.proofs.ForCallers.{two_slots}
use Rattle.device_model.specs.IndexWords.{Index, IsIndex}
use Rattle.shadow_index.specs.States.{index_of}
use Rattle.task_queue.specs.Queues.{IsQueued, Queued, after_finish}
use Rattle.ver_table.specs.Chains.{AreNamed, AreOpened, Chain}
use Rattle.ver_table.proofs.Reopens.{slots_told}
use Rattle.committed_state.specs.Committed.{IsCommitted, MayJoin, queue_in}
use Rattle.committed_state.specs.declared.committed.Committed.{Committed}
use Rattle.committed_state.specs.declared.joining.Joining.{Joining}
use Rattle.nv_base.specs.declared.lines.Spawn as base_spawn
use Rattle.committed_state.proofs.Slots.{all_slots, same-numbers}

-- both of two facts of each task
all-both : (next : ℕ) (tasks : List TaskRec) → AllByRecursion (λ (t : TaskRec). 0 < t.id) tasks → AllByRecursion (λ (t : TaskRec). t.id < next) tasks → AllByRecursion (λ (t : TaskRec). (0 < t.id) × (t.id < next)) tasks
all-both next [] p q = tt
all-both next (t ∷ tasks) p q = ((p.0, q.0), all-both next tasks p.1 q.1)

pub queued_of_index : (set : TaskSet) (x : Index) → IsIndex set x → IsQueued (queue_in set.records x)
queued_of_index set x i = record { in_order = i.in_order; given = all-both x.next x.tasks i.positive i.old; few = i.records }

-- how many slots an object of the set has
part_slots : (objects : List ObjPart) (o : ℕ) (d : ObjPart) → d.slots ≡ 0 → slice_index (map (λ (p : ObjPart). p.slots) objects) o ≡ (get_or objects o d).slots
part_slots [] o d e = sym e
part_slots (p ∷ objects) zero d e = refl
part_slots (p ∷ objects) (suc o) d e = part_slots objects o d e

-- an index names a slot of each object
pub named_of_index : (set : TaskSet) (x : Index) (chains : List Chain) → all_slots chains ≡ map (λ (p : ObjPart). p.slots) set.objects → IsIndex set x → AreNamed (all_slots chains) x.slots
named_of_index set x chains e i =
    let long = ap length e ∙ length-map set.objects (λ (p : ObjPart). p.slots) in
    record {
      number = i.slots ∙ sym long;
      each = λ o l. let low = i.named o (omega (arith, l, long)) in
          let same : slice_index (all_slots chains) o ≡ (object_at set o).slots = ap (λ (xs : List ℕ). slice_index xs o) e ∙ part_slots set.objects o (record { name = []; size = 0; slots = 0; first = [] }) refl in
          omega (arith, low, same);
    }

-- after a finish the queue is that of the state after it
pub queue_after : (set : TaskSet) (j : Joining) (spawns : List base_spawn.Spawn) (c : Committed) → IsCommitted set c → MayJoin set j spawns c → after_finish j.task.0 (map spawn_of spawns) c.queue ≡ queue_in set.records (index_of c.after)
queue_after set j spawns c h m =
    let x = index_of c.state in
    let next : x.next + length (map spawn_of spawns) ≡ (index_of c.after).next = ap (λ (n : ℕ). x.next + n) (length-map spawns spawn_of) ∙ sym m.next in
    ap (after_finish j.task.0 (map spawn_of spawns)) h.queue
    ∙ ap (λ (ts : List TaskRec). let q : Queued = record { tasks = ts; next = x.next + length (map spawn_of spawns); records = set.records } in q) (sym m.tasks)
    ∙ ap (λ (n : ℕ). let q : Queued = record { tasks = (index_of c.after).tasks; next = n; records = set.records } in q) next

-- the first slot of each object is one of its slots
pub first_named : (set : TaskSet) (n : ℕ) → IsTaskSet set → n ≡ length set.objects → n ≤ 128 → AreNamed (map (λ (p : ObjPart). p.slots) set.objects) (take n (replicate 128 0))
first_named set n limits e few =
    let same : take n (replicate 128 0) ≡ replicate n 0 = take-replicate n 128 0 few in
    let long = length-map set.objects (λ (p : ObjPart). p.slots) in
    record {
      number = ap length same ∙ length-replicate n 0 ∙ e ∙ sym long;
      each = λ o l. let inside : o < length set.objects = omega (arith, l, long) in
          let zero_ : slice_index (take n (replicate 128 0)) o ≡ 0 = ap (λ (xs : List ℕ). slice_index xs o) same ∙ get_or-replicate n o 0 0 (omega (arith, inside, e)) in
          let two = two_slots set o limits inside in
          let told = part_slots set.objects o (record { name = []; size = 0; slots = 0; first = [] }) refl in
          omega (arith, zero_, two, told);
    }

-- an opened table has as many slots of each object
pub opened_slots : (slots named : List ℕ) (p : ℕ) (chains : List Chain) → AreOpened slots named p chains → all_slots chains ≡ slots
opened_slots slots named p chains h =
    let long = length-map chains (λ (c : Chain). c.slots) in
    same-numbers (all_slots chains) slots (long ∙ h.number) (λ k l. slots_told chains k ∙ ap (λ (c : Chain). c.slots) (h.each k (omega (arith, l, long, h.number))))

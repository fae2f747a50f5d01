-- A queue after a finish is a queue: its tasks are the open ones of a history of that one finish.
use Rattle.std.proofs.Common.{◌≡◌, ◌≢◌, ℕ, zero, suc, ◌+◌, ◌-◌, ◌<◌, ◌≤◌, Bool, true, false, cond, eqb, not, List, [], ◌∷◌, ◌++◌, Option, Some, None, length, filter, refl, arith, eqb-true, length-append}
use Rattle.std.specs.List.{AllByRecursion}
use Rattle.nv_base.proofs.ForCallers.{all_append}
use Rattle.kernel_model.specs.Effects.{Exit, Spawn, Run}
use Rattle.kernel_model.specs.Items.{FinishRecord}
use Rattle.kernel_model.specs.Replay.{DeviceState, TaskRec, task_under}
use Rattle.kernel_model.specs.OpenTasks.{children, others_than}
use Rattle.kernel_model.proofs.ForCallers.{length-open_tasks, open_order}
use Rattle.task_queue.specs.Queues.{IsQueued, Queued, after_finish}

abbrev base_of : Queued → DeviceState
base_of q = record { objects = []; tasks = q.tasks; clock = 0; number = 0; next = q.next }

abbrev run_of : List Spawn → Run
run_of spawns = record { outcome = Exit 0; reads = []; writes = []; spawns = spawns }

abbrev finish_of : Queued → ℕ → List Spawn → FinishRecord
finish_of q task spawns = record { number = 1; task = task; point = 0; first = q.next; run = run_of spawns }

abbrev Given : ℕ → TaskRec → Type 0
Given next t = (0 < t.id) × (t.id < next)

old_tasks : (next : ℕ) (tasks : List TaskRec) → AllByRecursion (Given next) tasks → AllByRecursion (λ t. t.id < next) tasks
old_tasks next [] h = tt
old_tasks next (t ∷ tasks) h = (h.0.1, old_tasks next tasks h.1)

-- an open task was given its id
open_given : (next task : ℕ) (tasks : List TaskRec) (s : Spawn) → AllByRecursion (Given next) tasks → task_under tasks task ≡ Some s → (0 < task) × (task < next)
open_given next task [] s h e = absurd (cc e)
open_given next task (t ∷ tasks) s h e = go (open_given next task tasks s h.1) (eqb t.id task) refl e
  where
    go : (task_under tasks task ≡ Some s → (0 < task) × (task < next)) → (b : Bool) → eqb t.id task ≡ b → cond b (Some (let r : Spawn = record { program = t.program; arg = t.arg } in r)) (task_under tasks task) ≡ Some s → (0 < task) × (task < next)
    go rest true f k = let same : t.id ≡ task = eqb-true t.id task f in (omega (arith, same, h.0.0), omega (arith, same, h.0.1))
    go rest false f k = rest k

more_given : (next : ℕ) (spawns : ℕ) (task : ℕ) (tasks : List TaskRec) → AllByRecursion (Given next) tasks → AllByRecursion (Given (next + spawns)) (others_than task tasks)
more_given next spawns task [] h = tt
more_given next spawns task (t ∷ tasks) h = go (not (eqb t.id task)) (more_given next spawns task tasks h.1)
  where
    go : (b : Bool) → AllByRecursion (Given (next + spawns)) (others_than task tasks) → AllByRecursion (Given (next + spawns)) (cond b (t ∷ others_than task tasks) (others_than task tasks))
    go true r = ((h.0.0, omega (arith, h.0.1)), r)
    go false r = r

children_given : (first next : ℕ) (spawns : List Spawn) → 0 < first → first + length spawns ≤ next → AllByRecursion (Given next) (children first spawns)
children_given first next [] p h = tt
children_given first next (s ∷ spawns) p h = ((p, omega (arith, h)), children_given (first + 1) next spawns (omega (arith, p)) (omega (arith, h)))

pub finished_queued : (q : Queued) (task : ℕ) (spawns : List Spawn) (s : Spawn) → IsQueued q → task_under q.tasks task ≡ Some s → length q.tasks - 1 + length spawns ≤ q.records → IsQueued (after_finish task spawns q)
finished_queued q task spawns s h e l =
    let id = open_given q.next task q.tasks s h.given e in
    record {
      in_order = open_order (base_of q) (old_tasks q.next q.tasks h.given) h.in_order (finish_of q task spawns ∷ []) ((refl, refl, tt), (id.1, tt));
      given = all_append (Given (q.next + length spawns)) (others_than task q.tasks) (children q.next spawns) (more_given q.next (length spawns) task q.tasks h.given)
          (children_given q.next (q.next + length spawns) spawns (omega (arith, id.0, id.1)) (omega arith));
      few = omega (arith, l, length-open_tasks (base_of q) (finish_of q task spawns) [] h.in_order s e);
    }

-- an open task is one under its id
pub open_under : (tasks : List TaskRec) (task : ℕ) → task_under tasks task ≢ None → (s : Spawn) × (task_under tasks task ≡ Some s)
open_under tasks task h = go (task_under tasks task) refl
  where
    go : (o : Option Spawn) → task_under tasks task ≡ o → (s : Spawn) × (task_under tasks task ≡ Some s)
    go None e = absurd (h e)
    go (Some s) e = (s, e)

-- there is one at least
pub some_open : (tasks : List TaskRec) (task : ℕ) (s : Spawn) → task_under tasks task ≡ Some s → 0 < length tasks
some_open [] task s e = absurd (cc e)
some_open (t ∷ tasks) task s e = omega arith

-- without it, one fewer stand there
pub length-others : (q : Queued) (task : ℕ) (s : Spawn) → IsQueued q → task_under q.tasks task ≡ Some s → length (others_than task q.tasks) ≤ length q.tasks - 1
length-others q task s h e = omega (arith, length-append (others_than task q.tasks) [], (finished_queued q task [] s h e (omega (arith, h.few))).few, length-open_tasks (base_of q) (finish_of q task []) [] h.in_order s e)

-- Finishes run whole one after another.
use Rattle.std.proofs.Common.{◌≡◌, ℕ, ◌+◌, ◌-◌, ◌≤◌, ◌<◌, Bool, true, false, cond, leb, eqb, List, [], ◌∷◌, ◌++◌, length, slice_get, Option, Some, None, refl, sym, ◌∙◌, subst, arith}
use Rattle.std.specs.Prelude.{◌&&◌}
use Rattle.std.specs.List.{AllByRecursion}
use Rattle.std.specs.Option.{option_or}
use Rattle.std.proofs.lemmas.Bool.{eq-eqb, leb-true}
use Rattle.std.proofs.lemmas.Option.{slice_get_within}
use Rattle.kernel_model.specs.Effects.{Programs, Spawn}
use Rattle.kernel_model.specs.Items.{Entry, FinishRecord, entry_of, serial_order}
use Rattle.kernel_model.specs.Replay.{AreNumbered, DeviceState, IsRunOn, TaskRec, Tables, after, after_all, child, max_id, next_id, tables_of, task_under}
use Rattle.kernel_model.specs.Serial.{InIdOrder, Serial}
use Rattle.kernel_model.specs.Durable.{state_left}
use Rattle.kernel_model.specs.Fit.{HasOldTasks}
use Rattle.kernel_model.specs.History.{IsNumbered}
use Rattle.kernel_model.proofs.Growth.{task_under-open}
use Rattle.kernel_model.proofs.Joining.{joined_listings}
use Rattle.kernel_model.proofs.OpenLaws.{open_order, next-base}
use Rattle.kernel_model.proofs.Order.{serial_order-all}
use Rattle.kernel_model.proofs.Theorem.{task_under-below}

pub none_serial : (whole : Programs) (base : DeviceState) → InIdOrder base.tasks → Serial whole base [] base
none_serial whole base o = record {
  history = [];
  entries_are = refl;
  replays = tt;
  numbered = tt;
  objects = refl;
  tasks = λ id. refl;
  by_id = o;
  clock = refl;
  number = omega arith;
  next = refl;
}

-- what is open under ids below n only
abbrev IsBelow : ℕ → Tables → Type 0
IsBelow n t = (id : ℕ) (x : Spawn) → t.tasks id ≡ Some x → id < n

child-below : (n first : ℕ) (spawns : List Spawn) (id : ℕ) (x : Spawn) → first + length spawns ≤ n → child first spawns id ≡ Some x → id < n
child-below n first spawns id x l h = go (leb first id) refl (leb id max_id) h
  where
    go : (b : Bool) → leb first id ≡ b → (c : Bool) → cond (b && c) (slice_get spawns (id - first)) None ≡ Some x → id < n
    go true e true h = let k : id - first < length spawns = slice_get_within spawns (id - first) x h in let m : first ≤ id = leb-true first id e in omega (arith, k, m)
    go true e false h = absurd (cc h)
    go false e c h = absurd (cc h)

after-below : (n : ℕ) (i : FinishRecord) (t : Tables) → i.first + length i.run.spawns ≤ n → IsBelow n t → IsBelow n (after i t)
after-below n i t l h id x e = go (eqb i.task id) (t.tasks id) refl e
  where
    either : (o : Option Spawn) → (o ≡ Some x → id < n) → option_or o (child i.first i.run.spawns id) ≡ Some x → id < n
    either None k e = child-below n i.first i.run.spawns id x l e
    either (Some y) k e = k e

    go : (b : Bool) (o : Option Spawn) → t.tasks id ≡ o → option_or (cond b None o) (child i.first i.run.spawns id) ≡ Some x → id < n
    go true o f e = child-below n i.first i.run.spawns id x l e
    go false o f e = either o (λ g. h id x (f ∙ g)) e

all-below : (n : ℕ) (items : List FinishRecord) (t : Tables) → AllByRecursion (λ i. i.first + length i.run.spawns ≤ n) items → IsBelow n t → IsBelow n (after_all items t)
all-below n [] t l h = h
all-below n (i ∷ items) t l h = all-below n items (after i t) l.1 (after-below n i t l.0 h)

more : (m n : ℕ) (items : List FinishRecord) → m ≤ n → AllByRecursion (λ i. i.first + length i.run.spawns ≤ m) items → AllByRecursion (λ i. i.first + length i.run.spawns ≤ n) items
more m n [] l h = tt
more m n (i ∷ items) l h = (omega (arith, h.0, l), more m n items l h.1)

firsts-below : (base : DeviceState) (history : List FinishRecord) → AreNumbered base history → AllByRecursion (λ i. i.first + length i.run.spawns ≤ next_id base history) history
firsts-below base [] h = tt
firsts-below base (i ∷ history) h = (omega (arith, h.1), more (next_id base history) (next_id base (i ∷ history)) history (omega arith) (firsts-below base history h.2))

old-under : (n : ℕ) (tasks : List TaskRec) → ((id : ℕ) (x : Spawn) → task_under tasks id ≡ Some x → id < n) → AllByRecursion (λ t. t.id < n) tasks
old-under n [] h = tt
old-under n (t ∷ tasks) h = (h t.id (record { program = t.program; arg = t.arg }) (rw (eq-eqb t.id t.id refl) refl), old-under n tasks (λ id x e. later id x e (eqb t.id id) refl))
  where
    s : Spawn
    s = record { program = t.program; arg = t.arg }

    later : (id : ℕ) (x : Spawn) → task_under tasks id ≡ Some x → (b : Bool) → eqb t.id id ≡ b → id < n
    later id x e true f = h id s (rw f refl)
    later id x e false f = h id x (rw f e)

pub serial_old : (whole : Programs) (base f : DeviceState) (entries : List Entry) → HasOldTasks base → Serial whole base entries f → HasOldTasks f
serial_old whole base f entries old s = subst (λ n. AllByRecursion (λ t. t.id < n) f.tasks) (sym s.next) (old-under n f.tasks (λ id x e. all id x (sym (s.tasks id) ∙ e)))
  where
    n : ℕ
    n = next_id base s.history

    firsts : AllByRecursion (λ i. i.first + length i.run.spawns ≤ n) (serial_order s.history)
    firsts = serial_order-all (λ i. i.first + length i.run.spawns ≤ n) s.history (firsts-below base s.history s.numbered)

    all : IsBelow n (after_all (serial_order s.history) (tables_of base))
    all = all-below n (serial_order s.history) (tables_of base) firsts (λ id x e. omega (arith, task_under-below base.next base.tasks old id x e, next-base base s.history))

-- one finish alone
one_serial : (whole : Programs) (f : DeviceState) (i : FinishRecord) → HasOldTasks f → InIdOrder f.tasks → IsRunOn whole i (tables_of f) → i.number ≡ f.number + 1 → i.first ≡ f.next → f.next + length i.run.spawns ≤ max_id →
    Serial whole f (entry_of i ∷ []) (state_left f (i ∷ []))
one_serial whole f i old o run n k l = record {
  history = i ∷ [];
  entries_are = refl;
  replays = (run, tt);
  numbered = numbered.0;
  objects = refl;
  tasks = λ id. task_under-open f (i ∷ []) numbered l id;
  by_id = open_order f old o (i ∷ []) numbered;
  clock = refl;
  number = refl;
  next = refl;
}
  where
    numbered : IsNumbered f (i ∷ [])
    numbered = ((omega (arith, n), k, tt), (omega (arith, k, task_under-below f.next f.tasks old i.task run.0 run.1), tt))

pub next_serial : (whole : Programs) (base f : DeviceState) (entries : List Entry) (i : FinishRecord) → HasOldTasks base → Serial whole base entries f → IsRunOn whole i (tables_of f) → i.number ≡ f.number + 1 → i.first ≡ f.next → f.clock ≤ i.point → f.next + length i.run.spawns ≤ max_id →
    Serial whole base (entries ++ entry_of i ∷ []) (state_left f (i ∷ []))
next_serial whole base f entries i old s run n k p l = joined_listings whole base f (state_left f (i ∷ [])) entries (entry_of i ∷ []) s (one_serial whole f i (serial_old whole base f entries old s) s.by_id run n k l) (p, tt)

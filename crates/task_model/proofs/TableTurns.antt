-- What the turn of an entry makes of the tables of a replay.
use Rattle.std.proofs.Common.{◌≡◌, ℕ, zero, suc, ◌-◌, ◌<◌, Bool, true, false, cond, leb, eqb, List, [], ◌∷◌, length, slice_get, Option, Some, None, refl, sym, ap, ap₂, ◌∙◌, subst}
use mathlib.Core.Path.{fun_ext}
use Rattle.std.specs.Prelude.{◌&&◌}
use Rattle.std.specs.List.{AllByRecursion}
use Rattle.std.specs.Option.{option_or}
use Rattle.kernel_model.specs.Effects.{Objects, Outcome, Programs, Spawn, put}
use Rattle.kernel_model.specs.Items.{Entry, FinishRecord}
use Rattle.kernel_model.specs.Replay.{TaskRec, Tables, Tasks, after, child, max_id, task_under, with_children, without}
use Rattle.kernel_model.specs.EntryReplay.{is_same_outcome, item_if_open, item_on, item_with}
use Rattle.set_model.specs.Sets.{TaskSet}
use Rattle.task_model.specs.Tables.{AreOfSet}

-- the entry's task is open, and ends as the entry says
pub has_item : (whole : Programs) (t : Tables) (e : Entry) (task : Spawn) (outcome : Outcome) → t.tasks e.task ≡ Some task → outcome ≡ (whole task.program task.arg t.objects).outcome → is_same_outcome outcome e.outcome ≡ true
    → item_on whole t e ≡ Some (item_with e (whole task.program task.arg t.objects))
has_item whole t e task outcome o same h =
    let run = whole task.program task.arg t.objects in
    let item : Option FinishRecord = Some (item_with e run) in
    ap (item_if_open whole t.objects e) o ∙ ap (λ b. cond b item None) (ap (λ x. is_same_outcome x e.outcome) (sym same) ∙ h)

-- the tables after it, by their parts
pub tables_after : (old new : Tables) (mid : Tasks) (i : FinishRecord) (spawns : List Spawn) → new.objects ≡ put i.run.writes old.objects → spawns ≡ i.run.spawns → ((q : ℕ) → mid q ≡ without i.task old.tasks q) → ((q : ℕ) → new.tasks q ≡ with_children i.first spawns mid q)
    → new ≡ after i old
tables_after old new mid i spawns o s m n =
    let under : (q : ℕ) → new.tasks q ≡ with_children i.first i.run.spawns (without i.task old.tasks) q =
    λ q. n q ∙ ap (λ xs. with_children i.first xs mid q) s ∙ ap (λ (x : Option Spawn). option_or x (child i.first i.run.spawns q)) (m q) in
    ap₂ (λ (x : Objects) (ts : Tasks). let t : Tables = record { objects = x; tasks = ts } in t) o (fun_ext under)

got : {X : Type 0} (P : X → Type 0) (xs : List X) (k : ℕ) (x : X) → AllByRecursion P xs → slice_get xs k ≡ Some x → P x
got P [] k x h e = absurd (cc e)
got P (y ∷ xs) zero x h e = let same : y ≡ x = cc e in subst P same h.0
got P (y ∷ xs) (suc k) x h e = got P xs k x h.1 e

pub children_of_set : (set : TaskSet) (first : ℕ) (spawns : List Spawn) → AllByRecursion (λ s. s.program < length set.programs) spawns → AreOfSet set (child first spawns)
children_of_set set first spawns h id s e = go (leb first id && leb id max_id) e
  where
    go : (b : Bool) → cond b (slice_get spawns (id - first)) None ≡ Some s → s.program < length set.programs
    go true f = got (λ (x : Spawn). x.program < length set.programs) spawns (id - first) s h f
    go false f = absurd (cc f)

-- the tasks after it are of the set
pub still_of_set : (set : TaskSet) (new mid : Tasks) (tasks : Tasks) (task first : ℕ) (spawns : List Spawn) → AreOfSet set tasks → AllByRecursion (λ s. s.program < length set.programs) spawns → ((q : ℕ) → mid q ≡ without task tasks q)
    → ((q : ℕ) → new q ≡ with_children first spawns mid q) → AreOfSet set new
still_of_set set new mid tasks task first spawns h k m n id s e = go (eqb task id) (tasks id) refl (sym (n id ∙ ap (λ (x : Option Spawn). option_or x (child first spawns id)) (m id)) ∙ e)
  where
    either : (o : Option Spawn) → tasks id ≡ o → option_or o (child first spawns id) ≡ Some s → s.program < length set.programs
    either None o f = children_of_set set first spawns k id s f
    either (Some x) o f = h id s (o ∙ f)

    go : (b : Bool) (o : Option Spawn) → tasks id ≡ o → option_or (cond b None o) (child first spawns id) ≡ Some s → s.program < length set.programs
    go true o f g = children_of_set set first spawns k id s g
    go false o f g = either o f g

-- the tasks of a list
pub list_of_set : (set : TaskSet) (tasks : List TaskRec) → AllByRecursion (λ t. t.program < length set.programs) tasks → AreOfSet set (task_under tasks)
list_of_set set [] h id s e = absurd (cc e)
list_of_set set (t ∷ tasks) h id s e = go (list_of_set set tasks h.1 id s) (eqb t.id id) e
  where
    go : (task_under tasks id ≡ Some s → s.program < length set.programs) → (b : Bool) → cond b (Some (let r : Spawn = record { program = t.program; arg = t.arg } in r)) (task_under tasks id) ≡ Some s → s.program < length set.programs
    go rest true f = let same : t.program ≡ s.program = cc f in subst (λ n. n < length set.programs) same h.0
    go rest false f = rest f

pub same_of_set : (set : TaskSet) (tasks others : Tasks) → ((id : ℕ) → others id ≡ tasks id) → AreOfSet set tasks → AreOfSet set others
same_of_set set tasks others e h id s f = h id s (sym (e id) ∙ f)

pub same_programs : (set : TaskSet) (spawns others : List Spawn) → spawns ≡ others → AllByRecursion (λ s. s.program < length set.programs) others → AllByRecursion (λ s. s.program < length set.programs) spawns
same_programs set spawns others e h = subst (AllByRecursion (λ s. s.program < length set.programs)) (sym e) h

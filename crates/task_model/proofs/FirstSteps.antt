-- One turn of the least open task, and what is left from there.
use Rattle.std.proofs.Common.{◌≡◌, ℕ, suc, ◌+◌, ◌-◌, ◌<◌, ◌≤◌, Bool, true, false, cond, leb, List, [], ◌∷◌, ◌++◌, length, map, slice_get, Option, Some, None, refl, sym, ap, ◌∙◌, subst, append_assoc, append-nil, arith}
use Rattle.std.specs.List.{AllByRecursion}
use Rattle.std.proofs.lemmas.List.{length-map}
use Rattle.kernel_model.specs.Effects.{Run, Write}
use Rattle.kernel_model.specs.Items as model
use Rattle.kernel_model.specs.Replay.{DeviceState, TaskRec}
use Rattle.kernel_model.specs.Durable.{state_left}
use Rattle.kernel_model.specs.Fit.{IsRun}
use Rattle.nv_base.specs.declared.lines.Entry as base_entry
use Rattle.nv_base.specs.declared.lines.TaskRec as base_task
use Rattle.set_model.specs.Sets.{TaskSet}
use Rattle.set_model.specs.Numbers.{sizes_of}
use Rattle.set_model.specs.Views.{entry_of, task_of}
use Rattle.task_model.specs.Finals.{IsFit, runs_of}
use Rattle.task_model.specs.FirstFinishes.{Advances, Finished, HasRoom, finish_of_first, finish_with, finished_before, first_finishes, least_finish, point_after}
use Rattle.task_model.proofs.FitStates.{kept_fit}

-- the first task
pub record HasFirst (tasks : List base_task.TaskRec) (t : base_task.TaskRec) : Type 0 where
  pub others : List base_task.TaskRec
  pub is : tasks ≡ t ∷ others

pub has_first : (tasks : List base_task.TaskRec) (t : base_task.TaskRec) → slice_get tasks 0 ≡ Some t → HasFirst tasks t
has_first [] t e = absurd (cc e)
has_first (x ∷ others) t e = let same : x ≡ t = cc e in record { others = others; is = ap (λ y. y ∷ others) same }

pub first_program : (n : ℕ) (tasks : List base_task.TaskRec) (t : base_task.TaskRec) → slice_get tasks 0 ≡ Some t → AllByRecursion (λ (r : TaskRec). r.program < n) (map task_of tasks) → t.program.0 < n
first_program n tasks t e h =
    let f = has_first tasks t e in
    let P : List base_task.TaskRec → Type 0 = λ ts. AllByRecursion (λ (r : TaskRec). r.program < n) (map task_of ts) in
    (subst P f.is h).0

-- the test for records decides
decided : (set : TaskSet) (s : DeviceState) (tasks : List base_task.TaskRec) (t : base_task.TaskRec) (count : ℕ) (b : Bool) → slice_get tasks 0 ≡ Some t → count ≡ length (runs_of set t.program.0 t.arg s.objects).spawns → leb (length tasks - 1 + count) set.records ≡ b
    → finish_of_first set s (map task_of tasks) ≡ cond b (Some (finish_with s t.id.0 (runs_of set t.program.0 t.arg s.objects))) None
decided set s tasks t count b e k r =
    let f = has_first tasks t e in
    let n : length tasks - 1 + count ≡ length (map task_of f.others) + length (runs_of set t.program.0 t.arg s.objects).spawns = omega (arith, ap length f.is, k, length-map f.others task_of) in
    let i : Option model.FinishRecord = Some (finish_with s t.id.0 (runs_of set t.program.0 t.arg s.objects)) in
    let pick : Bool → Option model.FinishRecord = λ c. cond c i None in
    ap (λ ts. finish_of_first set s (map task_of ts)) f.is ∙ ap (λ m. pick (leb m set.records)) (sym n) ∙ ap pick r

pub refused : (set : TaskSet) (s : DeviceState) (tasks : List base_task.TaskRec) (t : base_task.TaskRec) (count : ℕ) → s.tasks ≡ map task_of tasks → slice_get tasks 0 ≡ Some t → count ≡ length (runs_of set t.program.0 t.arg s.objects).spawns
    → leb (length tasks - 1 + count) set.records ≡ false → least_finish set s ≡ None
refused set s tasks t count q e k r = ap (finish_of_first set s) q ∙ decided set s tasks t count false e k r

pub granted : (set : TaskSet) (s : DeviceState) (tasks : List base_task.TaskRec) (t : base_task.TaskRec) (count : ℕ) → s.tasks ≡ map task_of tasks → slice_get tasks 0 ≡ Some t → count ≡ length (runs_of set t.program.0 t.arg s.objects).spawns
    → leb (length tasks - 1 + count) set.records ≡ true → least_finish set s ≡ Some (finish_with s t.id.0 (runs_of set t.program.0 t.arg s.objects))
granted set s tasks t count q e k r = ap (finish_of_first set s) q ∙ decided set s tasks t count true e k r

-- finishes behind others
abbrev pub finished_after : List model.Entry → Finished → Finished
finished_after done f = record { entries = done ++ f.entries; state = f.state }

step : (set : TaskSet) (m : ℕ) (s : DeviceState) (o : Option model.FinishRecord) → least_finish set s ≡ o
    → first_finishes set (suc m) s ≡ elim o [ None ↦ (let f : Finished = record { entries = []; state = s } in f) | Some i ↦ finished_before i (first_finishes set m (state_left s (i ∷ []))) ]
step set m s o e = ap (λ (p : Option model.FinishRecord). elim p as (λ q. Finished) [ None ↦ (let f : Finished = record { entries = []; state = s } in f) | Some i ↦ finished_before i (first_finishes set m (state_left s (i ∷ []))) ]) e

pub goes_on : (set : TaskSet) (all : Finished) (done : List model.Entry) (n m : ℕ) (s t : DeviceState) (e : base_entry.Entry) → n ≡ suc m → all ≡ finished_after done (first_finishes set n s) → Advances set s t (Some e)
    → all ≡ finished_after (done ++ entry_of e ∷ []) (first_finishes set m t)
goes_on set all done n m s t e k h a =
    let one : first_finishes set n s ≡ finished_before a.0 (first_finishes set m (state_left s (a.0 ∷ []))) = ap (λ x. first_finishes set x s) k ∙ step set m s (Some a.0) a.1 in
    let rest : first_finishes set m (state_left s (a.0 ∷ [])) ≡ first_finishes set m t = ap (first_finishes set m) (sym a.3) in
    h ∙ ap (finished_after done) one
    ∙ ap (λ (x : model.Entry). record { entries = done ++ x ∷ (first_finishes set m (state_left s (a.0 ∷ []))).entries; state = (first_finishes set m (state_left s (a.0 ∷ []))).state }) (sym a.2)
    ∙ ap (λ (f : Finished). record { entries = done ++ entry_of e ∷ f.entries; state = f.state }) rest
    ∙ ap (λ (es : List model.Entry). record { entries = es; state = (first_finishes set m t).state }) (sym (append_assoc done (entry_of e ∷ []) (first_finishes set m t).entries))

pub stops : (set : TaskSet) (all : Finished) (done : List model.Entry) (n m : ℕ) (s t : DeviceState) → n ≡ suc m → all ≡ finished_after done (first_finishes set n s) → Advances set s t None → all ≡ record { entries = done; state = t }
stops set all done n m s t k h a =
    let none : Finished = record { entries = []; state = s } in
    let one : first_finishes set n s ≡ none = ap (λ x. first_finishes set x s) k ∙ step set m s None a.0 in
    h ∙ ap (finished_after done) one ∙ ap (λ (es : List model.Entry). record { entries = es; state = s }) (append-nil done) ∙ ap (λ (x : DeviceState). record { entries = done; state = x }) (sym a.1)

pub ends : (set : TaskSet) (all : Finished) (done : List model.Entry) (n : ℕ) (s : DeviceState) → n ≡ 0 → all ≡ finished_after done (first_finishes set n s) → all ≡ record { entries = done; state = s }
ends set all done n s k h = h ∙ ap (λ x. finished_after done (first_finishes set x s)) k ∙ ap (λ (es : List model.Entry). record { entries = es; state = s }) (append-nil done)

-- a turn keeps the state fit, and uses up room for one
pub advanced_fit : (set : TaskSet) (s t : DeviceState) (i : model.FinishRecord) → IsFit set s → IsRun (sizes_of set) i.run → t ≡ state_left s (i ∷ []) → IsFit set t
advanced_fit set s t i h r e = subst (IsFit set) (sym e) (kept_fit set s i h r)

point_near : (clock : ℕ) (writes : List Write) → point_after clock writes ≤ clock + 1
point_near clock [] = omega arith
point_near clock (w ∷ ws) = omega arith

pub room_left : (turns : ℕ) (s t : DeviceState) (task : ℕ) (run : Run) → HasRoom (turns + 1) s → length run.spawns ≤ 8 → t ≡ state_left s (finish_with s task run ∷ []) → HasRoom turns t
room_left turns s t task run h l e = subst (HasRoom turns) (sym e) (record {
  clock = omega (arith, h.clock, point_near s.clock run.writes);
  number = omega (arith, h.number);
  next = omega (arith, h.next, l);
})

pub less_room : (turns : ℕ) (s : DeviceState) → HasRoom (turns + 1) s → HasRoom turns s
less_room turns s h = record { clock = omega (arith, h.clock); number = omega (arith, h.number); next = omega (arith, h.next) }

pub room_at : (m n : ℕ) (s : DeviceState) → m ≡ n → HasRoom m s → HasRoom n s
room_at m n s e h = subst (λ k. HasRoom k s) e h

-- the answer that was met
pub advanced_none : (set : TaskSet) (s t : DeviceState) (r : Option base_entry.Entry) → Advances set s t r → ((x : base_entry.Entry) → r ≡ Some x → ⊥) → Advances set s t None
advanced_none set s t None a h = a
advanced_none set s t (Some x) a h = absurd (h x refl)

pub advanced_some : (set : TaskSet) (s t : DeviceState) (r : Option base_entry.Entry) (e : base_entry.Entry) → Advances set s t r → r ≡ Some e → Advances set s t (Some e)
advanced_some set s t r e a h = subst (Advances set s t) h a

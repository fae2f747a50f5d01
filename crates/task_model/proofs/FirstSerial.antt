-- The first finishes are serial.
use Rattle.std.proofs.Common.{◌≡◌, ℕ, zero, suc, ◌+◌, ◌*◌, ◌≤◌, Bool, true, false, cond, List, [], ◌∷◌, ◌++◌, length, Option, Some, None, refl, sym, ap, subst, append_assoc, append-nil, arith}
use Rattle.std.proofs.lemmas.Bool.{eq-eqb}
use Rattle.kernel_model.specs.Effects.{Programs, Write}
use Rattle.kernel_model.specs.Items.{Entry, FinishRecord, entry_of}
use Rattle.kernel_model.specs.Replay.{DeviceState, IsRunOn, TaskRec, max_id, tables_of}
use Rattle.kernel_model.specs.Serial.{Serial}
use Rattle.kernel_model.specs.Durable.{state_left}
use Rattle.kernel_model.specs.Fit.{HasOldTasks, IsMachine, IsRun}
use Rattle.set_model.specs.Sets.{TaskSet}
use Rattle.set_model.specs.Numbers.{sizes_of}
use Rattle.task_model.specs.TaskSteps.{task_steps}
use Rattle.task_model.specs.Finals.{IsFit, runs_of}
use Rattle.task_model.specs.FirstFinishes.{Finished, finish_of_first, finish_with, finished_before, first_finishes, least_finish, point_after}
use Rattle.task_model.proofs.FitStates.{RunLaw, kept_fit, runs_fit}

-- what the kernel's model says of the next finish
abbrev pub NextLaw : Type 0
NextLaw = (whole : Programs) (base f : DeviceState) (entries : List Entry) (i : FinishRecord) → HasOldTasks base → Serial whole base entries f → IsRunOn whole i (tables_of f) → i.number ≡ f.number + 1 → i.first ≡ f.next → f.clock ≤ i.point
    → f.next + length i.run.spawns ≤ max_id → Serial whole base (entries ++ entry_of i ∷ []) (state_left f (i ∷ []))

-- the finish of the first of some tasks
pub record IsOfFirst (whole : Programs) (s : DeviceState) (tasks : List TaskRec) (i : FinishRecord) : Type 0 where
  pub task : TaskRec
  pub others : List TaskRec
  pub tasks_are : tasks ≡ task ∷ others
  pub is : i ≡ finish_with s task.id (whole task.program task.arg s.objects)

kept : (b : Bool) (x i : FinishRecord) → cond b (Some x) None ≡ Some i → i ≡ x
kept true x i e = cc e
kept false x i e = absurd (cc e)

pub of_first : (set : TaskSet) (s : DeviceState) (tasks : List TaskRec) (i : FinishRecord) → finish_of_first set s tasks ≡ Some i → IsOfFirst (runs_of set) s tasks i
of_first set s [] i e = absurd (cc e)
of_first set s (t ∷ others) i e = record { task = t; others = others; tasks_are = refl; is = kept _ _ i e }

point_late : (clock : ℕ) (writes : List Write) → clock ≤ point_after clock writes
point_late clock [] = omega arith
point_late clock (w ∷ ws) = omega arith

runs_on : (whole : Programs) (s : DeviceState) (t : TaskRec) (others : List TaskRec) → s.tasks ≡ t ∷ others → IsRunOn whole (finish_with s t.id (whole t.program t.arg s.objects)) (tables_of s)
runs_on whole s t others e = (record { program = t.program; arg = t.arg }, rw (e, eq-eqb t.id t.id refl) refl, refl)

next_one : NextLaw → (whole : Programs) (base s : DeviceState) (entries : List Entry) (t : TaskRec) (others : List TaskRec) → HasOldTasks base → Serial whole base entries s → s.tasks ≡ t ∷ others
    → length (whole t.program t.arg s.objects).spawns ≤ 8 → s.next + 8 ≤ max_id → (let i = finish_with s t.id (whole t.program t.arg s.objects) in Serial whole base (entries ++ entry_of i ∷ []) (state_left s (i ∷ [])))
next_one law whole base s entries t others old h e l m =
    law whole base s entries (finish_with s t.id (whole t.program t.arg s.objects)) old h (runs_on whole s t others e) refl refl (point_late s.clock (whole t.program t.arg s.objects).writes) (omega (arith, l, m))

pub all_serial : NextLaw → RunLaw → (set : TaskSet) → IsMachine (task_steps set) (sizes_of set) → (base : DeviceState) → HasOldTasks base → (n : ℕ) (entries : List Entry) (s : DeviceState) → Serial (runs_of set) base entries s → IsFit set s
    → s.next + 8 * n ≤ max_id → Serial (runs_of set) base (entries ++ (first_finishes set n s).entries) (first_finishes set n s).state
all_serial law runs set m base old zero entries s h fit l = rw append-nil h
all_serial law runs set m base old (suc n) entries s h fit l = go (all_serial law runs set m base old n) (least_finish set s) refl
  where
    P : Finished → Type 0
    P f = Serial (runs_of set) base (entries ++ f.entries) f.state

    go : ((es : List Entry) (t : DeviceState) → Serial (runs_of set) base es t → IsFit set t → t.next + 8 * n ≤ max_id → Serial (runs_of set) base (es ++ (first_finishes set n t).entries) (first_finishes set n t).state)
        → (o : Option FinishRecord) → least_finish set s ≡ o → P (elim o [ None ↦ (let f : Finished = record { entries = []; state = s } in f) | Some i ↦ finished_before i (first_finishes set n (state_left s (i ∷ []))) ])
    go rest None e = rw append-nil h
    go rest (Some i) e =
        let first = of_first set s s.tasks i e in
        let t = first.task in
        let run : IsRun (sizes_of set) (runs_of set t.program t.arg s.objects) = runs_fit runs set m t.program t.arg s.objects fit.shape in
        let Q : FinishRecord → Type 0 = λ x. Serial (runs_of set) base (entries ++ entry_of x ∷ []) (state_left s (x ∷ [])) in
        let R : FinishRecord → Type 0 = λ x. IsRun (sizes_of set) x.run in
        let one = subst Q (sym first.is) (next_one law (runs_of set) base s entries t first.others old h first.tasks_are run.spawns (omega (arith, l))) in
        let ran = subst R (sym first.is) run in
        let after = first_finishes set n (state_left s (i ∷ [])) in
        let S : List Entry → Type 0 = λ es. Serial (runs_of set) base es after.state in
        subst S (append_assoc entries (entry_of i ∷ []) after.entries)
        (rest (entries ++ entry_of i ∷ []) (state_left s (i ∷ [])) one (kept_fit set s i fit ran) (omega (arith, l, ran.spawns, ap (λ (x : FinishRecord). x.first) first.is)))

pub serial_at : (whole : Programs) (base : DeviceState) (all : Finished) (entries : List Entry) (s : DeviceState) → all ≡ record { entries = entries; state = s } → Serial whole base all.entries all.state → Serial whole base entries s
serial_at whole base all entries s e h = let P : Finished → Type 0 = λ f. Serial whole base f.entries f.state in subst P e h

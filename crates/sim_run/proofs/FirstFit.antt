-- The state that first finishes leave is one on which the tasks of the set run.
use Rattle.std.proofs.Common.{◌≡◌, ℕ, zero, suc, ◌∷◌, [], Option, Some, None, refl, sym, subst}
use Rattle.kernel_model.specs.Items.{FinishRecord}
use Rattle.kernel_model.specs.Replay.{DeviceState}
use Rattle.kernel_model.specs.Durable.{state_left}
use Rattle.kernel_model.specs.Fit.{IsMachine, IsRun}
use Rattle.set_model.specs.Sets.{TaskSet}
use Rattle.set_model.specs.Numbers.{sizes_of}
use Rattle.task_model.specs.TaskSteps.{task_steps}
use Rattle.task_model.specs.Finals.{IsFit, runs_of}
use Rattle.task_model.specs.FirstFinishes.{Finished, finished_before, first_finishes, least_finish}
use Rattle.task_model.proofs.FitStates.{RunLaw, kept_fit, runs_fit}
use Rattle.task_model.proofs.FirstSerial.{of_first}

pub all_fit : RunLaw → (set : TaskSet) → IsMachine (task_steps set) (sizes_of set) → (n : ℕ) (s : DeviceState) → IsFit set s → IsFit set (first_finishes set n s).state
all_fit runs set m zero s fit = fit
all_fit runs set m (suc n) s fit = go (all_fit runs set m n) (least_finish set s) refl
  where
    P : Finished → Type 0
    P f = IsFit set f.state

    go : ((t : DeviceState) → IsFit set t → IsFit set (first_finishes set n t).state) → (o : Option FinishRecord) → least_finish set s ≡ o
        → P (elim o [ None ↦ (let f : Finished = record { entries = []; state = s } in f) | Some i ↦ finished_before i (first_finishes set n (state_left s (i ∷ []))) ])
    go rest None e = fit
    go rest (Some i) e =
        let first = of_first set s s.tasks i e in
        let t = first.task in
        let run : IsRun (sizes_of set) (runs_of set t.program t.arg s.objects) = runs_fit runs set m t.program t.arg s.objects fit.shape in
        let R : FinishRecord → Type 0 = λ x. IsRun (sizes_of set) x.run in
        rest (state_left s (i ∷ [])) (kept_fit set s i fit (subst R (sym first.is) run))

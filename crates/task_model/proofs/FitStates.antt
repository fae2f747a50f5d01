-- States on which the tasks of a set run, and how a finish keeps them so.
use Rattle.std.proofs.Common.{◌≡◌, ℕ, ◌<◌, Bool, true, false, cond, not, eqb, List, [], ◌∷◌, length, Option, Some, None, refl, ap, ◌∙◌, zero-add, arith}
use Rattle.std.specs.List.{AllByRecursion}
use Rattle.std.specs.Prelude.{filter}
use Rattle.rv_core.specs.State.{MachineState}
use Rattle.object_sets.proofs.ForCallers.{all_append}
use Rattle.kernel_model.specs.Sizes.{Sizes}
use Rattle.kernel_model.specs.Effects.{Objects, Write, object_words, put, written}
use Rattle.kernel_model.specs.Runs.{TaskMachine, whole_run}
use Rattle.kernel_model.specs.Items.{FinishRecord}
use Rattle.kernel_model.specs.Replay.{DeviceState, TaskRec}
use Rattle.kernel_model.specs.OpenTasks.{children, others_than}
use Rattle.kernel_model.specs.Durable.{state_left}
use Rattle.kernel_model.specs.Fit.{AreSized, IsBase, IsMachine, IsRun, IsWrite}
use Rattle.kernel_model.proofs.ForCallers.{children_programs, length-put_from, object_words-put, object_words-put_written, written-size}
use Rattle.set_model.specs.Sets.{TaskSet}
use Rattle.set_model.specs.Numbers.{sizes_of}
use Rattle.task_model.specs.TaskSteps.{task_steps}
use Rattle.task_model.specs.Shape.{HasShape}
use Rattle.task_model.specs.Finals.{IsFit, runs_of}

-- what the kernel's model says of each whole run
abbrev pub RunLaw : Type 0
RunLaw = (steps : TaskMachine MachineState) (sizes : Sizes) (program arg : ℕ) (objects : Objects) → IsMachine steps sizes → AreSized sizes objects → IsRun sizes (whole_run steps program arg objects)

pub sized : (set : TaskSet) (objects : Objects) → HasShape set objects → AreSized (sizes_of set) objects
sized set objects h = record { number = h.number; words = λ o l. h.sizes o (omega (arith, l, h.number)) }

pub runs_fit : RunLaw → (set : TaskSet) → IsMachine (task_steps set) (sizes_of set) → (program arg : ℕ) (objects : Objects) → HasShape set objects → IsRun (sizes_of set) (runs_of set program arg objects)
runs_fit law set m program arg objects h = law (task_steps set) (sizes_of set) program arg objects m (sized set objects h)

put-size : (sizes : Sizes) (ws : List Write) (m : Objects) (o : ℕ) → AllByRecursion (IsWrite sizes) ws → o < length m → length (object_words m o) ≡ sizes.size o → length (object_words (put ws m) o) ≡ sizes.size o
put-size sizes ws m o h l k = go (written ws o) refl
  where
    go : (w : Option (List ℕ)) → written ws o ≡ w → length (object_words (put ws m) o) ≡ sizes.size o
    go None e = ap length (object_words-put 0 ws m o (rw zero-add e)) ∙ k
    go (Some words) e = ap length (object_words-put_written 0 ws m o words l (rw zero-add e)) ∙ written-size sizes ws o words h e

pub put_shape : (set : TaskSet) (ws : List Write) (m : Objects) → AllByRecursion (IsWrite (sizes_of set)) ws → HasShape set m → HasShape set (put ws m)
put_shape set ws m w h = record {
  number = length-put_from 0 ws m ∙ h.number;
  sizes = λ o l. let k : o < length m = omega (arith, l, length-put_from 0 ws m) in put-size (sizes_of set) ws m o w k (h.sizes o k);
}

kept_all : (P : TaskRec → Type 0) (p : TaskRec → Bool) (xs : List TaskRec) → AllByRecursion P xs → AllByRecursion P (filter p xs)
kept_all P p [] h = tt
kept_all P p (x ∷ xs) h = elim (p x) as (λ b. AllByRecursion P (cond b (x ∷ filter p xs) (filter p xs))) [ true ↦ (h.0, kept_all P p xs h.1) | false ↦ kept_all P p xs h.1 ]

pub kept_fit : (set : TaskSet) (s : DeviceState) (i : FinishRecord) → IsFit set s → IsRun (sizes_of set) i.run → IsFit set (state_left s (i ∷ []))
kept_fit set s i h r = record {
  shape = put_shape set i.run.writes s.objects r.writes h.shape;
  programs =
      all_append (λ t. t.program < length set.programs) (others_than i.task s.tasks) (children i.first i.run.spawns)
      (kept_all (λ t. t.program < length set.programs) (λ t. not (eqb t.id i.task)) s.tasks h.programs)
      (children_programs (length set.programs) i.first i.run.spawns r.programs);
}

pub base_fit : (set : TaskSet) (s : DeviceState) → IsBase (sizes_of set) s → IsFit set s
base_fit set s b = record { shape = record { number = b.objects; sizes = λ o l. b.words o (omega (arith, l, b.objects)) }; programs = b.programs }

-- Lines of open tasks and of objects, one more at a time.
use Rattle.std.proofs.Common.{arith, ◌≡◌, ℕ, zero, suc, ◌+◌, ◌<◌, List, [], ◌∷◌, ◌++◌, length, get_or, map, take, refl, ap, sym, subst, ◌∙◌, append_assoc}
use Rattle.std.specs.List.{AllByRecursion}
use Rattle.std.proofs.lemmas.List.{take_all}
use Rattle.nv_base.specs.declared.lines.TaskRec as base
use Rattle.kernel_model.specs.Effects.{Objects}
use Rattle.kernel_model.specs.Replay.{TaskRec}
use Rattle.set_model.specs.Sets.{ObjPart}
use Rattle.set_model.specs.Views.{task_of}
use Rattle.report_text.specs.Report.{objects_text}
use Rattle.simulation.proofs.ReadBack.{object_line, objects_more}

-- a task of a list
pub task_at : (n : ℕ) (tasks : List base.TaskRec) (i : ℕ) (d : base.TaskRec) → AllByRecursion (λ (t : TaskRec). t.program < n) (map task_of tasks) → i < length tasks → (get_or tasks i d).program.0 < n
task_at n [] i d h l = absurd (omega (arith, l))
task_at n (t ∷ tasks) zero d h l = h.0
task_at n (t ∷ tasks) (suc i) d h l = task_at n tasks i d h.1 (omega arith)

-- one more object
pub object_more : (parts : List ObjPart) (objects : Objects) (none : ObjPart) (o : ℕ) (before now front : List ℕ) → o < length parts → length objects ≡ length parts → now ≡ before ++ objects_text (take o parts) (take o objects)
    → front ≡ now ++ object_line parts objects none o → front ≡ before ++ objects_text (take (o + 1) parts) (take (o + 1) objects)
object_more parts objects none o before now front less sized e f =
    f ∙ ap (λ (x : List ℕ). x ++ object_line parts objects none o) e ∙ append_assoc before (objects_text (take o parts) (take o objects)) (object_line parts objects none o)
    ∙ ap (λ (x : List ℕ). before ++ x) (sym (objects_more parts objects none o less sized))

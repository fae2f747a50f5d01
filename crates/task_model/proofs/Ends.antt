-- What a run leaves at its end.
use Rattle.std.proofs.Common.{◌≡◌, [], ap, sym, subst, ◌∙◌, map}
use Rattle.nv_base.specs.declared.causes.TrapCause.{TrapCause}
use Rattle.nv_base.specs.declared.lines.Outcome.TheVariants as outcome
use Rattle.nv_base.specs.declared.lines.Outcome.{Outcome}
use Rattle.kernel_model.specs.Effects.{Effects, Objects, ended}
use Rattle.set_model.specs.Sets.{TaskSet}
use Rattle.set_model.specs.Views.{outcome_of, spawn_of}
use Rattle.task_model.specs.Progress.{Stands}
use Rattle.task_model.specs.WholeRun.{IsWholeRun}
use Rattle.task_model.specs.declared.progress.Progress.{Progress}
use Rattle.task_model.specs.declared.whole_run.Whole.{Whole}
use Rattle.task_model.proofs.WriteFacts.{put_from-none}

-- a trap: the writes and the spawns are dropped, and the reads stay
pub stopped : (set : TaskSet) (objects : Objects) (e : Effects) (p : Progress) (w : Whole) (o : Outcome) (cause : TrapCause) → Stands set objects e p
    → o ≡ outcome.Trap cause → w.outcome ≡ o → w.reads ≡ p.reads → w.written ≡ [] → w.values ≡ objects → w.spawns ≡ []
    → IsWholeRun w (ended e (outcome_of o)) objects
stopped set objects e p w o cause h is same r v f s =
    subst (λ x. IsWholeRun w (ended e (outcome_of x)) objects) (sym is) (record {
      outcome = ap outcome_of (same ∙ is);
      reads = r ∙ h.reads;
      written = v;
      values = f ∙ sym (put_from-none 0 objects);
      spawns = ap (map spawn_of) s;
    })

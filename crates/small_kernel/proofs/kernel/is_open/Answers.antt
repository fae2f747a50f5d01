use Rattle.std.proofs.Common.{List, ap, sym, ◌∙◌}
use Rattle.kernel_model.specs.Replay.{TaskRec, task_under}
use Rattle.small_kernel.proofs.Stands.{told_is_open}
use Rattle.small_kernel.proofs.kernel.is_open.Goals as goal

pub returns : goal.returns
returns c t f =
    told_is_open c.open_tasks.result.now c.args.task.0 (sym c.is_under.ensures ∙ t) (ap (λ (ts : List TaskRec). task_under ts c.args.task.0) c.open_tasks.ensures ∙ f)

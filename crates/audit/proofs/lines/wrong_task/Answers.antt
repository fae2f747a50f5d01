use Rattle.std.proofs.Common.{◌≡◌, ◌+◌, ap, ◌∙◌, sym, length, Some, Option, ℕ, arith}
use Rattle.nv_base.specs.declared.lines.TaskRec as base
use Rattle.audit.proofs.LineFacts.{task_differs, task_follows, task_missing, task_surplus}
use Rattle.audit.proofs.lines.wrong_task.Goals as goal

abbrev zero_task : base.TaskRec
zero_task = record { id = record { 0 = 0 }; program = record { 0 = 0 }; arg = 0 }

pub returns-then-k-left : goal.returns-then-k-left
returns-then-k-left c = task_surplus _ c.args.line c.args.told.now c.args.left.now c.loop-k.k zero_task (omega arith) (omega arith) c.loop-k.invariant

pub returns-then-not-is_same_task : goal.returns-then-not-is_same_task
returns-then-not-is_same_task c = task_differs _ c.args.line c.args.told.now c.args.left.now c.loop-k.k zero_task (omega arith) (omega arith) c.loop-k.invariant (sym c.is_same_task.ensures ∙ c.if-not-is_same_task.true)

pub loop-k-preserved : goal.loop-k-preserved
loop-k-preserved c = task_follows _ c.args.line c.args.told.now c.args.left.now c.loop-k.k zero_task (omega arith) (omega arith) c.loop-k.invariant (sym c.is_same_task.ensures ∙ c.if-not-is_same_task.false)

pub returns-then-told-left : goal.returns-then-told-left
returns-then-told-left c =
    let e : length c.args.told.now ≡ c.loop-k.k = omega arith in
    let at : ℕ → Option ℕ = λ n. Some (c.args.line + n) in
    ap at e ∙ task_missing _ c.args.line c.args.told.now c.args.left.now c.loop-k.k zero_task (omega arith) (omega arith) c.loop-k.invariant

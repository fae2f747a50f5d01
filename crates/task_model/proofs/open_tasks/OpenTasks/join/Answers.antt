use Rattle.std.proofs.Common.{◌∙◌, arith}
use Rattle.task_model.specs.Tables.{open_under}
use Rattle.task_model.proofs.OpenFacts.{joined_all, joined_at}
use Rattle.task_model.proofs.open_tasks.OpenTasks.join.Goals as goal

pub returns-in_default : goal.returns-in_default
returns-in_default c = λ q. c.loop-i.invariant q ∙ joined_all c.args.first.0 c.loop-i.i c.args.spawns.now (open_under c.args.self.now) q (omega (arith, c.in_default.ensures))

pub loop-i-preserved : goal.loop-i-preserved
loop-i-preserved c = λ q.
    c.in_ok-join_one.ensures q
    ∙ joined_at c.args.first.0 c.in-Some.id c.loop-i.i c.args.spawns.now _ (open_under c.args.self.now) (open_under c.loop-i.self) q (omega arith) (omega (arith, c.in-Some.ensures)) (omega (arith, c.in-Some.ensures)) (c.loop-i.invariant q)

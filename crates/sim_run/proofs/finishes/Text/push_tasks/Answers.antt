use Rattle.std.proofs.Common.{length}
use Rattle.sim_run.proofs.FinishLines.{task_at}
use Rattle.sim_run.proofs.finishes.Text.push_tasks.Goals as goal

pub put_open-requires : goal.put_open-requires
put_open-requires c = task_at (length c.args.set.now.programs) c.args.tasks.now c.loop-task.task-index _ c.requires c.loop-task-test.true

use Rattle.std.proofs.Common.{arith, ◌∙◌}
use Rattle.device_format.proofs.FirstIndex.{first_record_is, no_record_is}
use Rattle.device_format.proofs.fresh.first_record.Goals as goal

pub returns-then-r-tasks : goal.returns-then-r-tasks
returns-then-r-tasks c = no_record_is c.args.tasks.now c.args.k (omega arith)

pub returns : goal.returns
returns c = c.record_word.ensures ∙ first_record_is c.args.tasks.now _ c.args.k (omega arith)

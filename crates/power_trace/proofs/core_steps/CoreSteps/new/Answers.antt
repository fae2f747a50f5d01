use Rattle.std.proofs.Common.{[], map, ◌++◌, ◌∙◌, ap}
use Rattle.schedule_model.specs.CoreSteps.{core_steps}
use Rattle.power_trace.specs.Items.{item_of}
use Rattle.power_trace.proofs.InTurn.{no_times}
use Rattle.power_trace.proofs.core_steps.CoreSteps.new.Goals as goal

pub returns : goal.returns
returns c = ap (λ s. s ++ core_steps c.args.cores (map item_of c.args.items.now)) (c.new.ensures ∙ no_times [])

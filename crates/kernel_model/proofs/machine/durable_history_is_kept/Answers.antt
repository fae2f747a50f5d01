use Rattle.kernel_model.proofs.StepLaws.{listed_history}
use Rattle.kernel_model.proofs.machine.durable_history_is_kept.Goals as goal

pub returns : goal.returns
returns g c = λ world s h. listed_history world s.history h.history h.records s.cores h.cores

use Rattle.kernel_model.proofs.DurableLaws.{run_listed}
use Rattle.kernel_model.proofs.Reached.{run_ids}
use Rattle.kernel_model.proofs.machine.run_has_ids.Goals as goal

pub returns : goal.returns
returns g c = λ x. (run_ids x.world x.set_up x.events x.ids x.cores x.power x.boots, (run_listed x.world x.set_up x.events x.ids x.cores x.power x.boots).2)

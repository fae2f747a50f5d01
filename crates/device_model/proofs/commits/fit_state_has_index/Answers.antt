use Rattle.device_model.proofs.Steps.{fit_index}
use Rattle.device_model.proofs.commits.fit_state_has_index.Goals as goal

pub returns : goal.returns
returns g = fit_index

use Rattle.device_model.proofs.DecodesKeeps.{held_fits}
use Rattle.device_model.proofs.keeping.held_state_is_fit.Goals as goal

pub returns : goal.returns
returns c = held_fits

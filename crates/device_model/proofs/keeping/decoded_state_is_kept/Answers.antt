use Rattle.device_model.proofs.Decoded.{kept}
use Rattle.device_model.proofs.keeping.decoded_state_is_kept.Goals as goal

pub returns : goal.returns
returns g = λ d. kept d.set.format d.kind d.set

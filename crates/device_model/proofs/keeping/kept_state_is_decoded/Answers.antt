use Rattle.device_model.proofs.Decoded.{decoded}
use Rattle.device_model.proofs.keeping.kept_state_is_decoded.Goals as goal

pub returns : goal.returns
returns g = λ d. decoded d.set.format d.kind d.set

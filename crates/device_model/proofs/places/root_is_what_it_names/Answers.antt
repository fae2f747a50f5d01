use Rattle.device_model.proofs.LaidOut.{root_once}
use Rattle.device_model.proofs.places.root_is_what_it_names.Goals as goal

pub returns : goal.returns
returns g = λ d. root_once d.kind d.set

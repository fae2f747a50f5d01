use Rattle.device_model.proofs.Decoded.{goes_on}
use Rattle.device_model.proofs.journals.cut_commit_goes_on.Goals as goal

pub returns : goal.returns
returns g = λ d. goes_on d.set.format d.kind d.set

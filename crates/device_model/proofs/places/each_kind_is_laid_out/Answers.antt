use Rattle.device_model.proofs.LaidOut.{laid_out_set}
use Rattle.device_model.proofs.places.each_kind_is_laid_out.Goals as goal

pub returns : goal.returns
returns g = laid_out_set

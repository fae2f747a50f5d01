use Rattle.device_model.proofs.LaidOut.{laid_out_set}
use Rattle.device_model.specs.Devices.{layout_on}
use Rattle.device_model.proofs.KeepsDecodes.{index-read}
use Rattle.device_model.proofs.keeping.kept_index_is_read_back.Goals as goal

pub returns : goal.returns
returns g = λ d h words t k. index-read d.set (layout_on d) h words (laid_out_set d.kind d.set t) k

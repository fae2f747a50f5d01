use Rattle.device_model.proofs.Decoded.{blank_format}
use Rattle.device_model.proofs.formats.cut_format_is_blank.Goals as goal

pub returns : goal.returns
returns g = λ d. blank_format d.set.format d.kind d.set

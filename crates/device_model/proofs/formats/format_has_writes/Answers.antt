use Rattle.device_model.specs.Devices.{layout_on}
use Rattle.device_model.proofs.LaidOut.{laid_out_set}
use Rattle.device_model.proofs.Formatted.{length-format}
use Rattle.device_model.proofs.formats.format_has_writes.Goals as goal

pub returns : goal.returns
returns g = λ d t. length-format d.set (layout_on d) (laid_out_set d.kind d.set t)

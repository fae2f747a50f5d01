use Rattle.device_model.specs.Devices.{layout_on}
use Rattle.device_model.proofs.LaidOut.{laid_out_set}
use Rattle.device_model.proofs.InRange.{read-low}
use Rattle.device_model.proofs.ranges.reads_are_in_range.Goals as goal

pub returns : goal.returns
returns g = λ d root j t r a. read-low d.set (layout_on d) root j (laid_out_set d.kind d.set t) r a

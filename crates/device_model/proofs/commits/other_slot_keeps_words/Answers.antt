use Rattle.device_model.specs.Devices.{layout_on}
use Rattle.device_model.proofs.LaidOut.{laid_out_set}
use Rattle.device_model.proofs.InRange.{kept-slot}
use Rattle.device_model.proofs.commits.other_slot_keeps_words.Goals as goal

pub returns : goal.returns
returns g = λ d h c words k o slot i t u n w other. kept-slot d.set (layout_on d) h c words k o slot i (laid_out_set d.kind d.set t) u n w.0 w.1 w.2 other

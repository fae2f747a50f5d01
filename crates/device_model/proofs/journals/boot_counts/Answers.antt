use Rattle.device_model.specs.Devices.{layout_on}
use Rattle.device_model.proofs.LaidOut.{laid_out_set}
use Rattle.device_model.proofs.Journaled.{boot_whole}
use Rattle.device_model.proofs.Decoded.{boot_decodes}
use Rattle.device_model.proofs.journals.boot_counts.Goals as goal

pub returns-clause-keeps : goal.returns-clause-keeps
returns-clause-keeps g = λ d h words t s. boot_whole d.set (layout_on d) h words (laid_out_set d.kind d.set t) s

pub returns-clause-decodes : goal.returns-clause-decodes
returns-clause-decodes g = λ d. boot_decodes d.set.format d.kind d.set

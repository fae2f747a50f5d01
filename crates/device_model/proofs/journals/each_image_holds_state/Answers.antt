use Rattle.device_model.specs.Devices.{layout_on}
use Rattle.device_model.proofs.LaidOut.{laid_out_set}
use Rattle.device_model.proofs.Journaled.{journal_image}
use Rattle.device_model.proofs.Decoded.{journal_decodes}
use Rattle.device_model.proofs.journals.each_image_holds_state.Goals as goal

pub returns-clause-keeps : goal.returns-clause-keeps
returns-clause-keeps g = λ d h acts words k t n s. journal_image d.set (layout_on d) h acts words k (laid_out_set d.kind d.set t) n s

pub returns-clause-decodes : goal.returns-clause-decodes
returns-clause-decodes g = λ d. journal_decodes d.set.format d.kind d.set

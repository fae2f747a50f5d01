use Rattle.device_model.specs.Devices.{layout_on}
use Rattle.device_model.proofs.LaidOut.{laid_out_set}
use Rattle.device_model.proofs.Formatted.{format_whole}
use Rattle.device_model.proofs.Decoded.{whole_format}
use Rattle.device_model.proofs.formats.whole_format_keeps_first_state.Goals as goal

pub returns-clause-keeps : goal.returns-clause-keeps
returns-clause-keeps g = λ d words t. format_whole d.set (layout_on d) words (laid_out_set d.kind d.set t) t

pub returns-clause-decodes : goal.returns-clause-decodes
returns-clause-decodes g = λ d. whole_format d.set.format d.kind d.set

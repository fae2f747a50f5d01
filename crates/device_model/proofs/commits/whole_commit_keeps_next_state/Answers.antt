use Rattle.device_model.specs.Devices.{layout_on}
use Rattle.device_model.proofs.LaidOut.{laid_out_set}
use Rattle.device_model.proofs.Committed.{commit_whole}
use Rattle.device_model.proofs.Decoded.{whole_commit}
use Rattle.device_model.proofs.commits.whole_commit_keeps_next_state.Goals as goal

pub returns-clause-keeps : goal.returns-clause-keeps
returns-clause-keeps g = λ d h c words t n s. commit_whole d.set (layout_on d) h c words (laid_out_set d.kind d.set t) n s

pub returns-clause-decodes : goal.returns-clause-decodes
returns-clause-decodes g = λ d. whole_commit d.set.format d.kind d.set

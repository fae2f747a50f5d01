use Rattle.device_model.specs.Devices.{layout_on}
use Rattle.device_model.proofs.LaidOut.{laid_out_set}
use Rattle.device_model.proofs.Committed.{commit_prefix}
use Rattle.device_model.proofs.Decoded.{cut_commit}
use Rattle.device_model.proofs.commits.cut_commit_keeps_state.Goals as goal

pub returns-clause-keeps : goal.returns-clause-keeps
returns-clause-keeps g = λ d h c words k t n s a. commit_prefix d.set (layout_on d) h c words k (laid_out_set d.kind d.set t) n s a

pub returns-clause-decodes : goal.returns-clause-decodes
returns-clause-decodes g = λ d. cut_commit d.set.format d.kind d.set

use Rattle.device_model.specs.Devices.{layout_on}
use Rattle.device_model.proofs.LaidOut.{laid_out_set}
use Rattle.device_model.proofs.UnderWay.{begins, one_more, cut, ends}
use Rattle.device_model.proofs.commits.commit_goes_write_by_write.Goals as goal

pub returns-clause-begins : goal.returns-clause-begins
returns-clause-begins g = begins

pub returns-clause-goes_on : goal.returns-clause-goes_on
returns-clause-goes_on g = one_more

pub returns-clause-cut : goal.returns-clause-cut
returns-clause-cut g = λ d h c count words t a u. cut d.set (layout_on d) h c count words (laid_out_set d.kind d.set t) a u

pub returns-clause-ends : goal.returns-clause-ends
returns-clause-ends g = λ d h c count words t a u. ends d.set (layout_on d) h c count words (laid_out_set d.kind d.set t) a u

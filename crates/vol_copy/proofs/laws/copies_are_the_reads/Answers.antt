use Rattle.vol_copy.proofs.Cutting.{any_copying, any_ended, any_running}
use Rattle.vol_copy.proofs.laws.copies_are_the_reads.Goals as goal

pub returns-clause-running : goal.returns-clause-running
returns-clause-running c = any_running

pub returns-clause-copying : goal.returns-clause-copying
returns-clause-copying c = any_copying

pub returns-clause-ended : goal.returns-clause-ended
returns-clause-ended c = any_ended

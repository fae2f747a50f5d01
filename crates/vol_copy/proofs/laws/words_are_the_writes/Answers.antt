use Rattle.vol_copy.proofs.Commits.{sizes_written, words_written}
use Rattle.vol_copy.proofs.laws.words_are_the_writes.Goals as goal

pub returns-clause-writes : goal.returns-clause-writes
returns-clause-writes c = words_written

pub returns-clause-sizes : goal.returns-clause-sizes
returns-clause-sizes c = sizes_written

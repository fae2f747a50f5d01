use Rattle.vol_copy.proofs.WordTurns as copying
use Rattle.vol_copy.proofs.Keeping as keeping
use Rattle.vol_copy.proofs.attempt.Attempt.open_read.Goals as goal

pub returns-clause-kept : goal.returns-clause-kept
returns-clause-kept c = λ s h. keeping.opens s c.args.self.now c.in-Fetching.object c.in-Fetching.want c.add.new.self c.in-Fetching.is c.add.ensures.added h

pub returns-clause-opens : goal.returns-clause-opens
returns-clause-opens c = copying.opens c.args.self.now c.args.v.object c.in-Fetching.object c.in-Fetching.want c.add.new.self c.requires.kept c.requires.fetching c.in-Fetching.is c.add.ensures.added

use Rattle.vol_copy.proofs.Obtaining.{has_none, has_words}
use Rattle.vol_copy.proofs.attempt.Attempt.obtain.Goals as goal

pub returns-then-has_words-clause-obtains : goal.returns-then-has_words-clause-obtains
returns-then-has_words-clause-obtains c = has_words c.args.self.now c.receive.new.self c.args.o c.args.want c.requires.may c.if-has_words.ensures c.receive.ensures.exact c.receive.ensures.room

pub returns-clause-obtains : goal.returns-clause-obtains
returns-clause-obtains c = has_none c.args.self.now c.args.o c.args.want c.requires.may c.if-has_words.ensures

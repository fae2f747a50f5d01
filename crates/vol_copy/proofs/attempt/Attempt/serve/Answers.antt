use Rattle.vol_copy.proofs.StepTurns.{exits_so}
use Rattle.vol_copy.proofs.attempt.Attempt.serve.Goals as goal

pub returns-in-Finish-clause-serves : goal.returns-in-Finish-clause-serves
returns-in-Finish-clause-serves c = exits_so c.args.set.now c.args.self.now c.end.new.self c.end.result c.args.service c.in-Finish.code c.in-Finish.is c.end.ensures.exact c.end.ensures.answer

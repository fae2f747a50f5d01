use Rattle.vol_copy.proofs.StepTurns.{went}
use Rattle.vol_copy.proofs.attempt.Attempt.go.Goals as goal

pub returns-clause-advances : goal.returns-clause-advances
returns-clause-advances c = λ t set. went set c.args.self.now c.go.new.self (c.go.ensures.went t)

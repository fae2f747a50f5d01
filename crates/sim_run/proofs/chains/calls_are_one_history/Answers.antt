use Rattle.sim_run.proofs.Chained.{one_history}
use Rattle.sim_run.proofs.chains.calls_are_one_history.Goals as goal

pub returns : goal.returns
returns c = one_history

use Rattle.table_machine.proofs.PowerTurns.{fail_follows}
use Rattle.table_machine.proofs.arms.failure_follows.Goals as goal

pub returns : goal.returns
returns g c = λ m after. fail_follows m.setting m.base m.last m.ghost m.words m.state after

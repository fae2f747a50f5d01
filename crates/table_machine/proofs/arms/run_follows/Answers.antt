use Rattle.table_machine.proofs.CoreSteps.{step_follows}
use Rattle.table_machine.proofs.arms.run_follows.Goals as goal

pub returns : goal.returns
returns g c = λ m n a h on at k. step_follows m.setting m.base m.last m.ghost m.words m.state n h.setting h.lawful h.slots k on

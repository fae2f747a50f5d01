use Rattle.table_machine.proofs.CoreSteps.{boot_follows}
use Rattle.table_machine.proofs.arms.boot_turn_follows.Goals as goal

pub returns : goal.returns
returns g c = λ m n left off more. boot_follows m.setting m.base m.last m.ghost m.words m.state n left off more

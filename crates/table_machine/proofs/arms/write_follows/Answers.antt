use Rattle.std.proofs.Common.{subst, sym}
use Rattle.table_machine.specs.Tables.{sizes_in}
use Rattle.table_machine.specs.Represents.{IsFitting}
use Rattle.table_machine.proofs.CoreSteps.{step_follows}
use Rattle.table_machine.proofs.arms.write_follows.Goals as goal

pub returns : goal.returns
returns g c = λ m n left i h on at. step_follows m.setting m.base m.last m.ghost m.words m.state n h.setting h.lawful h.slots (subst (IsFitting m.setting.steps (sizes_in m.setting)) (sym at) tt) on

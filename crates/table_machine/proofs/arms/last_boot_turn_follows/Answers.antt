use Rattle.table_machine.proofs.PowerTurns.{booted_follows}
use Rattle.table_machine.proofs.arms.last_boot_turn_follows.Goals as goal

pub returns : goal.returns
returns g c = λ m h off k. booted_follows m.setting m.base m.last m.ghost m.words m.state h.setting.laid_out h.lawful h.slots off k

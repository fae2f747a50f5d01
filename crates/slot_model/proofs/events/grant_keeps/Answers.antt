use Rattle.slot_model.proofs.Arms.{turn_stands}
use Rattle.kernel_model.specs.Cores.{Committing, Ready}
use Rattle.slot_model.proofs.events.grant_keeps.Goals as goal

pub returns : goal.returns
returns g c = λ m n left a outcome i h on at turn. turn_stands m.world m.floor m.state m.kept m.image n (Ready a outcome) (Committing i left) h.lawful h.stands on at turn

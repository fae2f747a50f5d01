use Rattle.slot_model.proofs.Arms.{turn_stands}
use Rattle.std.proofs.Common.{refl}
use Rattle.kernel_model.specs.Cores.{Committing, Idle}
use Rattle.slot_model.proofs.events.finish_keeps.Goals as goal

pub returns : goal.returns
returns g c = λ m n i h on at. turn_stands m.world m.floor m.state m.kept m.image n (Committing i 0) Idle h.lawful h.stands on at refl

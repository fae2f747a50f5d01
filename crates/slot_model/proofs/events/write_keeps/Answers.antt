use Rattle.slot_model.proofs.Arms.{turn_stands}
use Rattle.std.proofs.Common.{refl, suc}
use Rattle.kernel_model.specs.Cores.{Committing}
use Rattle.slot_model.proofs.events.write_keeps.Goals as goal

pub returns : goal.returns
returns g c = λ m n left i h on at. turn_stands m.world m.floor m.state m.kept m.image n (Committing i (suc left)) (Committing i left) h.lawful h.stands on at refl

use Rattle.slot_model.proofs.Fresh.{boot_idle, fresh_stands}
use Rattle.slot_model.proofs.events.boot_begins_afresh.Goals as goal

pub returns : goal.returns
returns g c = λ m left h off. fresh_stands m.world.sizes m.world.base m.floor m.state m.kept m.image (boot_idle m.world m.state left h.lawful off) h.stands

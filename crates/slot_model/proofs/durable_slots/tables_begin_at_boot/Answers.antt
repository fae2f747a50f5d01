use Rattle.slot_model.proofs.Fresh.{boot_idle, tables_begin}
use Rattle.slot_model.proofs.durable_slots.tables_begin_at_boot.Goals as goal

pub returns : goal.returns
returns g c = λ m left h off. tables_begin m.world.sizes m.world.base m.floor m.state m.kept m.image (boot_idle m.world m.state left h.lawful off) h.stands

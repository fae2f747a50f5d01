use Rattle.slot_model.proofs.Keeping.{tabled_boot}
use Rattle.slot_model.proofs.kernels.boot_begins_tables.Goals as goal

pub returns : goal.returns
returns g c = λ m left views h off none. tabled_boot m.world m.floor m.state m.kept m.image left views h.lawful h.stands off none

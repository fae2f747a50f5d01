use Rattle.slot_model.proofs.Named.{newest_stands}
use Rattle.slot_model.proofs.Nexts.{newest_of}
use Rattle.kernel_model.specs.Room.{is_needed}
use Rattle.kernel_model.specs.Versions.{versions}
use Rattle.slot_model.proofs.slots.newest_version_stands.Goals as goal

pub returns : goal.returns
returns g c = λ m o v h l e. newest_stands (m.world.sizes.slots o) m.floor (is_needed m.world.base m.state.history o m.state.cores) (m.image o) (versions m.world.base o m.state.history) v (m.kept.chains o) (newest_of m.world.base o m.state.history) e (h.stands.stands.objects o l)

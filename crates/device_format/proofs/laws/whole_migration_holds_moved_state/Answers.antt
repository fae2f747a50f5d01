use Rattle.device_format.proofs.Images.{migration_all_image}
use Rattle.device_format.proofs.laws.whole_migration_holds_moved_state.Goals as goal

pub returns : goal.returns
returns c = migration_all_image

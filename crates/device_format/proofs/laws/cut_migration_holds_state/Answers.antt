use Rattle.device_format.proofs.Images.{migration_image}
use Rattle.device_format.proofs.laws.cut_migration_holds_state.Goals as goal

pub returns : goal.returns
returns c = migration_image

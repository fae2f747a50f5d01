use Rattle.device_model.proofs.Migrated.{length-migration}
use Rattle.device_model.proofs.migrations.migration_has_writes.Goals as goal

pub returns : goal.returns
returns g = length-migration

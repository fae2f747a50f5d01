use Rattle.device_model.proofs.Migrated.{migration_write_at, migration_write_last}
use Rattle.device_model.proofs.migrations.migration_goes_in_order.Goals as goal

pub returns-clause-word : goal.returns-clause-word
returns-clause-word g = migration_write_at

pub returns-clause-last : goal.returns-clause-last
returns-clause-last g = migration_write_last

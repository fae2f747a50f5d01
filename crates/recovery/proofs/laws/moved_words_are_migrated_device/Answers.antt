use Rattle.recovery.proofs.MovedState.{moved_at, moved_own}
use Rattle.recovery.proofs.laws.moved_words_are_migrated_device.Goals as goal

pub returns-clause-own : goal.returns-clause-own
returns-clause-own c = moved_own

pub returns-clause-device : goal.returns-clause-device
returns-clause-device c = moved_at

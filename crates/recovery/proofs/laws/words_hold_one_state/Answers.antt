use Rattle.recovery.proofs.ObjectRead.{held_once}
use Rattle.recovery.proofs.ShiftLaws.{held_device}
use Rattle.recovery.proofs.laws.words_hold_one_state.Goals as goal

pub returns-clause-device : goal.returns-clause-device
returns-clause-device c = held_device

pub returns-clause-once : goal.returns-clause-once
returns-clause-once c = held_once

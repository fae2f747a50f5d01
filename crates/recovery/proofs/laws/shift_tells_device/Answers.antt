use Rattle.recovery.proofs.ShiftLaws.{held_named, shift_tells}
use Rattle.recovery.proofs.laws.shift_tells_device.Goals as goal

pub returns-clause-moved : goal.returns-clause-moved
returns-clause-moved c = λ d h words t own e. (shift_tells d.set words d.kind t own (held_named d.set.format d.kind d.set h words e)).0

pub returns-clause-device : goal.returns-clause-device
returns-clause-device c = λ d h words t own e. (shift_tells d.set words d.kind t own (held_named d.set.format d.kind d.set h words e)).1

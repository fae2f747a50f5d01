use Rattle.recovery.proofs.ShiftLaws.{unmoved_device}
use Rattle.recovery.proofs.laws.unmoved_words_are_first_device.Goals as goal

pub returns : goal.returns
returns c = unmoved_device

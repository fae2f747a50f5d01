use Rattle.std.proofs.Common.{refl}
use Rattle.device_model.proofs.format_1.format_1_begins.Goals as goal

pub returns-clause-magic : goal.returns-clause-magic
returns-clause-magic g = λ set. refl

pub returns-clause-root : goal.returns-clause-root
returns-clause-root g = λ set. refl

pub returns-clause-roots : goal.returns-clause-roots
returns-clause-roots g = λ set word. refl

pub returns-clause-numbers : goal.returns-clause-numbers
returns-clause-numbers g = λ set. (refl, refl, refl, refl)

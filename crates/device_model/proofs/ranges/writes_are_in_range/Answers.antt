use Rattle.device_model.specs.Devices.{layout_on}
use Rattle.device_model.proofs.LaidOut.{laid_out_set}
use Rattle.device_model.proofs.InRange.{commit-low, format-low, migration-low}
use Rattle.device_model.proofs.ranges.writes_are_in_range.Goals as goal

pub returns-clause-format : goal.returns-clause-format
returns-clause-format g = λ d t. format-low d.set (layout_on d) (laid_out_set d.kind d.set t)

pub returns-clause-commit : goal.returns-clause-commit
returns-clause-commit g = λ d h c t k n. commit-low d.set (layout_on d) h c (laid_out_set d.kind d.set t) k n

pub returns-clause-migration : goal.returns-clause-migration
returns-clause-migration g = migration-low

use Rattle.std.proofs.Common.{arith}
use Rattle.device_model.proofs.PlainLaws.{plain_copy_1, plain_copy_2}
use Rattle.device_model.proofs.format_1.format_1_goes_on.Goals as goal

pub returns-clause-first : goal.returns-clause-first
returns-clause-first g = plain_copy_1

pub returns-clause-second : goal.returns-clause-second
returns-clause-second g = plain_copy_2

pub returns-clause-slots : goal.returns-clause-slots
returns-clause-slots g = λ set o slot. omega arith

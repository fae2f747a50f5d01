use Rattle.device_model.specs.Devices.{layout_on}
use Rattle.device_model.proofs.ForCallers.{length-commit}
use Rattle.commit_writer.proofs.Whole.{goes_on, holds_at_end, holds_then}
use Rattle.commit_writer.proofs.laws.turns_make_whole_commit.Goals as goal

pub returns-clause-turns : goal.returns-clause-turns
returns-clause-turns c = λ g. length-commit (layout_on g.device) g.device.set g.held g.commit

pub returns-clause-goes_on : goal.returns-clause-goes_on
returns-clause-goes_on c = goes_on

pub returns-clause-before : goal.returns-clause-before
returns-clause-before c = holds_then

pub returns-clause-after : goal.returns-clause-after
returns-clause-after c = holds_at_end

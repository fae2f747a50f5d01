use Rattle.device_model.proofs.Counts.{counted_turns, length-commit, plain_turns}
use Rattle.device_model.proofs.commits.commit_has_turns.Goals as goal

pub returns-clause-writes : goal.returns-clause-writes
returns-clause-writes g = length-commit

pub returns-clause-counted : goal.returns-clause-counted
returns-clause-counted g = counted_turns

pub returns-clause-format_1 : goal.returns-clause-format_1
returns-clause-format_1 g = plain_turns

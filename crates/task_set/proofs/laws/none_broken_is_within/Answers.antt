use Rattle.task_set.proofs.LimitLaws.{within_if_none, none_if_within}
use Rattle.task_set.proofs.laws.none_broken_is_within.Goals as goal

pub returns-clause-within : goal.returns-clause-within
returns-clause-within c = within_if_none

pub returns-clause-none : goal.returns-clause-none
returns-clause-none c = none_if_within

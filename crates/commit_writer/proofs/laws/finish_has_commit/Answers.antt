use Rattle.commit_writer.proofs.NextState.{finish_next, finish_told, slots_planned}
use Rattle.commit_writer.proofs.laws.finish_has_commit.Goals as goal

pub returns-clause-next : goal.returns-clause-next
returns-clause-next c = finish_next

pub returns-clause-slots : goal.returns-clause-slots
returns-clause-slots c = slots_planned

pub returns-clause-told : goal.returns-clause-told
returns-clause-told c = finish_told

use Rattle.std.proofs.Common.{refl}
use Rattle.rv_isa.specs.Table.{instruction_of}
use Rattle.rv_core.specs.Execution.{executed}
use Rattle.task_model.proofs.laws.worked.Goals as goal

pub returns-clause-adds : goal.returns-clause-adds
unfolding executed instruction_of
returns-clause-adds c = refl

pub returns-clause-traps : goal.returns-clause-traps
unfolding executed instruction_of
returns-clause-traps c = refl

pub returns-clause-moves : goal.returns-clause-moves
unfolding executed instruction_of
returns-clause-moves c = refl

pub returns-clause-spawns : goal.returns-clause-spawns
unfolding executed instruction_of
returns-clause-spawns c = refl

pub returns-clause-asks : goal.returns-clause-asks
unfolding executed instruction_of
returns-clause-asks c = refl

pub returns-clause-forks : goal.returns-clause-forks
unfolding executed instruction_of
returns-clause-forks c = refl

pub returns-clause-writes_part : goal.returns-clause-writes_part
unfolding executed instruction_of
returns-clause-writes_part c = refl

pub returns-clause-reads_part : goal.returns-clause-reads_part
unfolding executed instruction_of
returns-clause-reads_part c = refl

pub returns-clause-refused : goal.returns-clause-refused
unfolding executed instruction_of
returns-clause-refused c = (refl, refl, refl)

pub returns-clause-own : goal.returns-clause-own
unfolding executed instruction_of
returns-clause-own c = refl

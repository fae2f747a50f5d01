use Rattle.kernel_core.proofs.Lawful.{at_decodes, boots_at}
use Rattle.kernel_core.proofs.Naming.{names_at}
use Rattle.kernel_core.proofs.laws.kernel_is_at_state.Goals as goal

pub returns-clause-durable : goal.returns-clause-durable
returns-clause-durable c = at_decodes

pub returns-clause-boots : goal.returns-clause-boots
returns-clause-boots c = boots_at

pub returns-clause-set_up : goal.returns-clause-set_up
returns-clause-set_up c = λ o k words s a. a.represented.1.lawful.set_up

pub returns-clause-own : goal.returns-clause-own
returns-clause-own c = λ o k words s a. a.keeps.own

pub returns-clause-refused : goal.returns-clause-refused
returns-clause-refused c = names_at

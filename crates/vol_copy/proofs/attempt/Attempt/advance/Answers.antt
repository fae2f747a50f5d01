use Rattle.nv_base.specs.declared.lines.Outcome.TheVariants.{Trap}
use Rattle.task_model.proofs.ForCallers.{registers_name_call}
use Rattle.vol_copy.proofs.StepTurns.{calls, ready_so, serves_in, trapped, went}
use Rattle.vol_copy.proofs.attempt.Attempt.advance.Goals as goal

pub serve-requires-clause-called : goal.serve-requires-clause-called
serve-requires-clause-called c = registers_name_call c.args.self.now.machine c.step.new.self c.in-Call.service c.in-Call.ensures.exact

pub returns-in-Went-clause-advances : goal.returns-in-Went-clause-advances
returns-in-Went-clause-advances c = went c.args.set.now c.args.self.now c.step.new.self c.in-Went.ensures.exact

pub returns-in-Trap-clause-advances : goal.returns-in-Trap-clause-advances
returns-in-Trap-clause-advances c = trapped c.args.set.now c.args.self.now c.end.new.self c.end.result c.step.new.self c.in-Trap.cause c.in-Trap.ensures.exact c.end.ensures.exact c.end.ensures.answer

pub returns-in-Call-clause-advances : goal.returns-in-Call-clause-advances
returns-in-Call-clause-advances c = calls c.args.set.now c.args.self.now c.serve.new.self c.serve.result c.step.new.self c.in-Call.service c.in-Call.ensures.exact c.serve.ensures.serves

pub returns-in-Trap-clause-stage : goal.returns-in-Trap-clause-stage
returns-in-Trap-clause-stage c = ready_so (record c.args.self.now { machine = c.step.new.self }) c.end.new.self c.end.result (Trap c.in-Trap.cause) c.end.ensures.exact c.end.ensures.answer

pub returns-in-Call-clause-stage : goal.returns-in-Call-clause-stage
returns-in-Call-clause-stage c = serves_in c.args.set.now (record c.args.self.now { machine = c.step.new.self }) c.serve.new.self c.serve.result c.in-Call.service c.serve.ensures.serves

use Rattle.task_model.proofs.StepFacts.{registers_name_call}
use Rattle.task_model.proofs.Services.{exits, stepped, trapped, went}
use Rattle.task_model.proofs.progress.Progress.turn.Goals as goal

pub read_object-requires-clause-called : goal.read_object-requires-clause-called
read_object-requires-clause-called c = registers_name_call c.args.machine.now c.step.new.self _ (rw c.in-Call-Read.field-0-is at c.in-Call-Read.ensures.exact)

pub read_part-requires-clause-called : goal.read_part-requires-clause-called
read_part-requires-clause-called c = registers_name_call c.args.machine.now c.step.new.self _ (rw c.in-Call-ReadPart.field-0-is at c.in-Call-ReadPart.ensures.exact)

pub write_part-requires-clause-called : goal.write_part-requires-clause-called
write_part-requires-clause-called c = registers_name_call c.args.machine.now c.step.new.self _ (rw c.in-Call-WritePart.field-0-is at c.in-Call-WritePart.ensures.exact)

pub returns-in-Went-clause-turns : goal.returns-in-Went-clause-turns
returns-in-Went-clause-turns c = stepped c.args.programs c.args.self.now c.args.self.now c.args.machine.now c.step.new.self _ _ c.in-Went.ensures.exact (went c.args.programs c.args.self.now c.step.new.self)

pub returns-in-Trap-clause-turns : goal.returns-in-Trap-clause-turns
returns-in-Trap-clause-turns c =
    stepped c.args.programs c.args.self.now c.args.self.now c.args.machine.now c.step.new.self _ _ c.in-Trap.ensures.exact (trapped c.args.programs c.args.self.now c.step.new.self c.in-Trap.cause)

pub returns-in-Call-Finish-clause-turns : goal.returns-in-Call-Finish-clause-turns
returns-in-Call-Finish-clause-turns c =
    stepped c.args.programs c.args.self.now c.args.self.now c.args.machine.now c.step.new.self _ _ (rw c.in-Call-Finish.field-0-is at c.in-Call-Finish.ensures.exact)
    (exits c.args.programs c.args.self.now c.step.new.self c.in-Call-Finish.code)

pub returns-in-Call-Read-clause-turns : goal.returns-in-Call-Read-clause-turns
returns-in-Call-Read-clause-turns c =
    stepped c.args.programs c.args.self.now c.read_object.new.self c.args.machine.now c.read_object.new.machine _ _ (rw c.in-Call-Read.field-0-is at c.in-Call-Read.ensures.exact) (c.read_object.ensures.turns c.args.programs)

pub returns-in-Call-Write-clause-turns : goal.returns-in-Call-Write-clause-turns
returns-in-Call-Write-clause-turns c =
    stepped c.args.programs c.args.self.now c.write_object.new.self c.args.machine.now c.write_object.new.machine _ _ (rw c.in-Call-Write.field-0-is at c.in-Call-Write.ensures.exact) (c.write_object.ensures.turns c.args.programs)

pub returns-in-Call-Spawn-clause-turns : goal.returns-in-Call-Spawn-clause-turns
returns-in-Call-Spawn-clause-turns c =
    stepped c.args.programs c.args.self.now c.spawn_task.new.self c.args.machine.now c.spawn_task.new.machine _ _ (rw c.in-Call-Spawn.field-0-is at c.in-Call-Spawn.ensures.exact) c.spawn_task.ensures.turns

pub returns-in-Call-ReadPart-clause-turns : goal.returns-in-Call-ReadPart-clause-turns
returns-in-Call-ReadPart-clause-turns c =
    stepped c.args.programs c.args.self.now c.read_part.new.self c.args.machine.now c.read_part.new.machine _ _ (rw c.in-Call-ReadPart.field-0-is at c.in-Call-ReadPart.ensures.exact) (c.read_part.ensures.turns c.args.programs)

pub returns-in-Call-WritePart-clause-turns : goal.returns-in-Call-WritePart-clause-turns
returns-in-Call-WritePart-clause-turns c =
    stepped c.args.programs c.args.self.now c.write_part.new.self c.args.machine.now c.write_part.new.machine _ _ (rw c.in-Call-WritePart.field-0-is at c.in-Call-WritePart.ensures.exact) (c.write_part.ensures.turns c.args.programs)

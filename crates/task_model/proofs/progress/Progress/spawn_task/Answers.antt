use Rattle.std.proofs.Common.{refl, arith}
use Rattle.task_model.proofs.Services.{one_too_many, refused_program, spawns_task}
use Rattle.task_model.proofs.progress.Progress.spawn_task.Goals as goal

pub returns-then-program-programs-clause-turns : goal.returns-then-program-programs-clause-turns
returns-then-program-programs-clause-turns c = refused_program c.args.programs c.args.self.now c.args.machine.now c.args.program c.args.arg c.if-program-programs.true

pub returns-then-index-ge-MAX_SPAWNS-clause-turns : goal.returns-then-index-ge-MAX_SPAWNS-clause-turns
returns-then-index-ge-MAX_SPAWNS-clause-turns c =
    one_too_many c.args.programs c.args.self.now c.args.machine.now c.args.program c.args.arg c.if-program-programs.false (omega (arith, c.if-index-ge-MAX_SPAWNS.true, c.len-index.ensures.exact))

pub returns-clause-turns : goal.returns-clause-turns
returns-clause-turns c =
    spawns_task c.args.programs c.args.self.now c.args.machine.now c.resume.new.self c.args.program c.args.arg c.len-index.result c.push.new.self
    (record { program = record { 0 = c.args.program }; arg = c.args.arg })
    c.if-program-programs.false c.if-index-ge-MAX_SPAWNS.false c.len-index.ensures.exact refl c.push.ensures c.resume.ensures.exact

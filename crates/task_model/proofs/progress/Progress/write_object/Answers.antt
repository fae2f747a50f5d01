use Rattle.task_model.proofs.Services.{refused_write, writes_object}
use Rattle.task_model.proofs.progress.Progress.write_object.Goals as goal

pub returns-in-Err-clause-turns : goal.returns-in-Err-clause-turns
returns-in-Err-clause-turns c = λ programs. refused_write programs c.args.self.now c.args.machine.now c.args.object c.args.at c.in-Err.cause c.in-Err.ensures.refusal

pub returns-clause-turns : goal.returns-clause-turns
returns-clause-turns c = λ programs.
    writes_object programs c.args.self.now c.args.machine.now c.resume.new.self c.args.object c.in-Ok.object.0 c.args.at c.take_from.new.self c.add.new.self
    c.in-Ok.ensures.object c.in-Ok.ensures.refusal c.in-Ok.ensures.inside c.take_from.ensures c.add.ensures.added c.add.ensures.increasing c.resume.ensures.exact

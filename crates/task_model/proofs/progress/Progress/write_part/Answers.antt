use Rattle.rv_core.specs.declared.services.Service.TheVariants.{WritePart}
use Rattle.task_model.proofs.Waits.{part_refused, refused, writes_part}
use Rattle.task_model.proofs.progress.Progress.write_part.Goals as goal

pub returns-in-Err-clause-turns : goal.returns-in-Err-clause-turns
returns-in-Err-clause-turns c = λ programs.
    refused programs c.args.self.now c.args.machine.now (WritePart c.args.object c.args.part.at c.args.part.first c.args.part.count) c.in-Err.cause
    (part_refused c.args.self.now c.args.machine.now c.args.object c.args.part.at c.args.part.first c.args.part.count c.in-Err.cause c.in-Err.ensures.refusal).1

pub returns-clause-turns : goal.returns-clause-turns
returns-clause-turns c = λ programs.
    writes_part programs c.args.self.now c.args.machine.now c.resume.new.self c.args.object c.in-Ok.o.0 c.args.part.at c.args.part.first c.args.part.count c.reads_with-reads.result c.take_part.new.self c.add.new.self c.reads_with-reads.ensures
    c.in-Ok.ensures.object c.in-Ok.ensures.refusal c.in-Ok.ensures.inside c.requires.called c.in-Ok.ensures.range c.take_part.ensures c.add.ensures.added c.add.ensures.increasing c.resume.ensures.exact

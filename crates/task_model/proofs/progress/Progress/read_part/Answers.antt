use Rattle.rv_core.specs.declared.services.Service.TheVariants.{ReadPart}
use Rattle.task_model.proofs.Waits.{part_refused, reads_part, refused}
use Rattle.task_model.proofs.progress.Progress.read_part.Goals as goal

pub returns-in-Err-clause-turns : goal.returns-in-Err-clause-turns
returns-in-Err-clause-turns c = λ programs.
    refused programs c.args.self.now c.args.machine.now (ReadPart c.args.object c.args.part.at c.args.part.first c.args.part.count) c.in-Err.cause
    (part_refused c.args.self.now c.args.machine.now c.args.object c.args.part.at c.args.part.first c.args.part.count c.in-Err.cause c.in-Err.ensures.refusal).0

pub returns-clause-turns : goal.returns-clause-turns
returns-clause-turns c = λ programs.
    reads_part programs c.args.self.now c.args.machine.now c.give.new.machine c.args.object c.in-Ok.o.0 c.args.part.at c.args.part.first c.args.part.count c.get.result.now c.reads_with-self.result c.reads_with-self.ensures
    c.in-Ok.ensures.object c.in-Ok.ensures.refusal c.in-Ok.ensures.inside c.requires.called c.get.ensures.exact c.give.ensures.exact

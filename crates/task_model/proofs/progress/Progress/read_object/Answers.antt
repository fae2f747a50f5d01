use Rattle.rv_core.specs.declared.services.Service.TheVariants.{Read}
use Rattle.task_model.proofs.Waits.{read_refused, reads_object, refused}
use Rattle.task_model.proofs.progress.Progress.read_object.Goals as goal

pub returns-in-Err-clause-turns : goal.returns-in-Err-clause-turns
returns-in-Err-clause-turns c = λ programs.
    refused programs c.args.self.now c.args.machine.now (Read c.args.object c.args.at) c.in-Err.cause (read_refused c.args.self.now c.args.machine.now c.args.object c.args.at c.in-Err.cause c.in-Err.ensures.refusal)

pub returns-clause-turns : goal.returns-clause-turns
returns-clause-turns c = λ programs.
    reads_object programs c.args.self.now c.args.machine.now c.give_words.new.machine c.resume.new.self c.args.object c.in-Ok.object.0 c.args.at c.get.result.now c.reads_with-self.result c.reads_with-self.ensures
    c.in-Ok.ensures.object c.in-Ok.ensures.refusal c.in-Ok.ensures.inside c.requires.called c.get.ensures.exact c.give_words.ensures.exact c.resume.ensures.exact

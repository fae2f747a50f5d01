use Rattle.std.proofs.Common.{ap, sym, ◌∙◌, option_map}
use Rattle.std.specs.Option.{option_or}
use Rattle.set_model.specs.Views.{entry_of}
use Rattle.report.specs.Fields.{values_in}
use Rattle.report.specs.LineReading.{trap_shape, trap_entry}
use Rattle.report.proofs.events.entry.Goals as goal

pub returns-in-Some : goal.returns-in-Some
returns-in-Some c = λ set. ap (λ o. option_or o (option_map trap_entry (values_in set (trap_shape c.args.word.now) c.args.text.now))) (ap (option_map entry_of) (sym c.in-Some.is) ∙ c.exited.ensures set)

pub returns-in-None : goal.returns-in-None
returns-in-None c = λ set. c.trapped.ensures set ∙ ap (λ o. option_or o (option_map trap_entry (values_in set (trap_shape c.args.word.now) c.args.text.now))) (ap (option_map entry_of) (sym c.in-None.is) ∙ c.exited.ensures set)

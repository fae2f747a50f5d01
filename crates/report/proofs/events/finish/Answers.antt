use Rattle.std.proofs.Common.{ap, sym, ◌∙◌, codes, option_map}
use Rattle.std.specs.Option.{option_or}
use Rattle.set_model.specs.Views.{entry_of}
use Rattle.report.specs.LineReading.{entry_in}
use Rattle.report.proofs.events.finish.Goals as goal

pub returns-in-Some : goal.returns-in-Some
returns-in-Some c = λ set. ap (λ o. option_or o (entry_in set (codes "found ") c.args.text.now)) (ap (option_map entry_of) (sym c.in-Some.is) ∙ c.entry.ensures set)

pub returns-in-None : goal.returns-in-None
returns-in-None c = λ set. c.entry-in-None.ensures set ∙ ap (λ o. option_or o (entry_in set (codes "found ") c.args.text.now)) (ap (option_map entry_of) (sym c.in-None.is) ∙ c.entry.ensures set)

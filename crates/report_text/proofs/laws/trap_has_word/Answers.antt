use Rattle.std.proofs.Common.{refl}
use Rattle.report_text.proofs.Outcomes.{cause_named, word_of_cause}
use Rattle.report_text.proofs.laws.trap_has_word.Goals as goal

pub returns : goal.returns
returns c = record { own = word_of_cause; each = cause_named; zero = refl }

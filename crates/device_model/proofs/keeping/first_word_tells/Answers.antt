use Rattle.device_model.proofs.DecodesKeeps.{decodes_blank, decodes_other}
use Rattle.device_model.proofs.keeping.first_word_tells.Goals as goal

pub returns-clause-blank : goal.returns-clause-blank
returns-clause-blank c = λ set. decodes_blank set.format set

pub returns-clause-other : goal.returns-clause-other
returns-clause-other c = λ set. decodes_other set.format set

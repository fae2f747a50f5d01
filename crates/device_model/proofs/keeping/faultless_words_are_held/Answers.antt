use Rattle.device_model.proofs.DecodesKeeps.{decodes_held}
use Rattle.device_model.proofs.keeping.faultless_words_are_held.Goals as goal

pub returns : goal.returns
returns g = λ d. decodes_held d.set.format d.kind d.set

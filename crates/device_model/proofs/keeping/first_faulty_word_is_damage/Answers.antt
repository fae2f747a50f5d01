use Rattle.device_model.proofs.DecodesKeeps.{decodes_damaged}
use Rattle.device_model.proofs.keeping.first_faulty_word_is_damage.Goals as goal

pub returns : goal.returns
returns c = λ d. decodes_damaged d.set.format d.kind d.set

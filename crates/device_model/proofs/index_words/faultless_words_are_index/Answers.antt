use Rattle.device_model.proofs.IndexBack.{sound_index, sound_words}
use Rattle.device_model.proofs.index_words.faultless_words_are_index.Goals as goal

pub returns : goal.returns
returns c = λ set w m l h. (sound_index set w m l h, sound_words set w m l h)

use Rattle.device_model.proofs.IndexReading.{words_tell}
use Rattle.device_model.proofs.index_words.words_tell_index.Goals as goal

pub returns : goal.returns
returns g = words_tell

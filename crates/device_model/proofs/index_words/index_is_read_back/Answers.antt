use Rattle.device_model.proofs.IndexReading.{read_back}
use Rattle.std.proofs.Common.{length}
use Rattle.device_model.proofs.index_words.index_is_read_back.Goals as goal

pub returns : goal.returns
returns c = λ set x h. read_back (length set.objects) x h.slots h.last

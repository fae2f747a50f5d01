use Rattle.device_model.proofs.IndexBack.{fault-same}
use Rattle.device_model.proofs.index_words.fault_rests_on_words_before.Goals as goal

pub returns : goal.returns
returns c = fault-same

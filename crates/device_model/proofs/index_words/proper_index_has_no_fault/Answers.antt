use Rattle.device_model.proofs.IndexFaults.{index-holds}
use Rattle.device_model.proofs.index_words.proper_index_has_no_fault.Goals as goal

pub returns : goal.returns
returns c = index-holds

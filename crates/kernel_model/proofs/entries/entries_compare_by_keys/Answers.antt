use Rattle.kernel_model.proofs.EntryOrder.{compare_keys}
use Rattle.kernel_model.proofs.entries.entries_compare_by_keys.Goals as goal

pub returns : goal.returns
returns c = λ a b. compare_keys a b

use Rattle.kernel_model.proofs.EntryOrder.{order_sorts}
use Rattle.kernel_model.proofs.entries.entry_order_sorts.Goals as goal

pub returns : goal.returns
returns c = λ entries. order_sorts entries

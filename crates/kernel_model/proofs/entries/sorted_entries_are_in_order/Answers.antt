use Rattle.kernel_model.proofs.EntryOrder.{sorts_order}
use Rattle.kernel_model.proofs.entries.sorted_entries_are_in_order.Goals as goal

pub returns : goal.returns
returns c = λ entries sorted p h. sorts_order entries sorted p h

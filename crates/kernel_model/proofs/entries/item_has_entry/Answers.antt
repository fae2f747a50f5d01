use Rattle.kernel_model.proofs.EntryItems.{item_entry}
use Rattle.kernel_model.proofs.entries.item_has_entry.Goals as goal

pub returns : goal.returns
returns c = λ whole t e. item_entry whole t e

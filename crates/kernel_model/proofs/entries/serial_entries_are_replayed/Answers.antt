use Rattle.kernel_model.proofs.EntryReplays.{serial_are}
use Rattle.kernel_model.proofs.entries.serial_entries_are_replayed.Goals as goal

pub returns : goal.returns
returns c = λ whole base entries f s. serial_are whole base entries f s

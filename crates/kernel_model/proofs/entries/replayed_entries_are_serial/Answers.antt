use Rattle.kernel_model.proofs.EntryHistory.{are_serial}
use Rattle.kernel_model.proofs.entries.replayed_entries_are_serial.Goals as goal

pub returns : goal.returns
returns c = λ whole base entries f a. are_serial whole base entries f a

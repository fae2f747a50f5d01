use Rattle.kernel_model.proofs.EntryHistory.{none_serial}
use Rattle.kernel_model.proofs.entries.wrong_entries_are_not_serial.Goals as goal

pub returns : goal.returns
returns c = λ whole base entries place f h s. none_serial whole base entries place f h s

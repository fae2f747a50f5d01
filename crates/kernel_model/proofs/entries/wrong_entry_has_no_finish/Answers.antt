use Rattle.kernel_model.specs.Replay.{tables_of}
use Rattle.kernel_model.specs.EntryReplay.{entry_order}
use Rattle.kernel_model.proofs.EntrySteps.{fails}
use Rattle.kernel_model.proofs.entries.wrong_entry_has_no_finish.Goals as goal

pub returns : goal.returns
returns c = λ whole base entries place h. let k = fails whole (tables_of base) (entry_order entries) place h in (k.done, k.rest, k.entry, k.reruns, k.split, k.is_place, k.good, k.none)

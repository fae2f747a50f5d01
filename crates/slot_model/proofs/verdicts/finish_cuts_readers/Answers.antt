use Rattle.slot_model.proofs.Flips.{finish_cuts}
use Rattle.slot_model.proofs.verdicts.finish_cuts_readers.Goals as goal

pub returns : goal.returns
returns g c = λ m n left start i reads h at k. finish_cuts m.world m.state n left start i reads h at k

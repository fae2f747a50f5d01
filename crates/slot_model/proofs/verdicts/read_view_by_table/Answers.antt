use Rattle.slot_model.proofs.Keeping.{read_view}
use Rattle.slot_model.proofs.verdicts.read_view_by_table.Goals as goal

pub returns : goal.returns
returns g c = λ sizes base history start o copied reads places image v b e f r. read_view sizes base history start o reads places image v b copied e f r

use Rattle.table_machine.proofs.EachImage.{reports}
use Rattle.table_machine.proofs.images.report_by_tables.Goals as goal

pub returns : goal.returns
returns g c = λ x h words cores power events fit machine k ids. reports x h words cores power events fit machine k ids

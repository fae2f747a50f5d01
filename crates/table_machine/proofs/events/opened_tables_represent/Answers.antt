use Rattle.table_machine.proofs.Opened.{opened_represents}
use Rattle.table_machine.proofs.events.opened_tables_represent.Goals as goal

pub returns : goal.returns
returns g c = λ x h words cores power fit machine k ids. opened_represents x h words cores power fit machine k ids

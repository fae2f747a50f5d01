use Rattle.table_machine.proofs.Untouched.{write_leaves}
use Rattle.table_machine.proofs.events.write_changes_no_table.Goals as goal

pub returns : goal.returns
returns g c = λ x words t n on e. write_leaves x words t n on e

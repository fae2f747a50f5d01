use Rattle.table_machine.proofs.EachImage.{tables_tell}
use Rattle.table_machine.proofs.images.tables_tell_state.Goals as goal

pub returns : goal.returns
returns g c = λ d r. tables_tell d.setting d.base d.last d.tables d.words d.state r.represents

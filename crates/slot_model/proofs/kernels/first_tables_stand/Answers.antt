use Rattle.slot_model.proofs.Keeping.{tabled_first}
use Rattle.slot_model.proofs.kernels.first_tables_stand.Goals as goal

pub returns : goal.returns
returns g c = λ sizes base cores power boots named image views sized h none. tabled_first _ sizes base cores power boots named image views sized h none

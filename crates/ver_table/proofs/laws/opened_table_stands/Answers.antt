use Rattle.std.proofs.Common.{refl, arith}
use Rattle.kernel_model.proofs.ForCallers.{base_chain}
use Rattle.ver_table.proofs.laws.opened_table_stands.Goals as goal

pub returns : goal.returns
returns c = λ base o slots k needed. record { stored = refl; chain = base_chain base o needed; bound = omega arith }

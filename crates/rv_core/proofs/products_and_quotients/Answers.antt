use Rattle.std.proofs.Common.{refl}
use Rattle.rv_core.proofs.products_and_quotients.Goals as goal

pub returns : goal.returns
returns c = refl

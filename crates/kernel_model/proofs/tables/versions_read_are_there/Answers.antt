use Rattle.std.proofs.Common.{get_or}
use Rattle.kernel_model.specs.Cores.{Idle}
use Rattle.kernel_model.proofs.Found.{copying_found, ready_found, running_found}
use Rattle.kernel_model.proofs.tables.versions_read_are_there.Goals as goal

pub returns : goal.returns
returns g c = λ world s k a h. (
  running_found world s.history a (get_or s.cores k Idle) (h.cores k),
  λ copied. copying_found world s.history a copied (get_or s.cores k Idle) (h.cores k),
  λ outcome. ready_found world s.history a outcome (get_or s.cores k Idle) (h.cores k),
)

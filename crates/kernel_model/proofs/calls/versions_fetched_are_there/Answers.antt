use Rattle.std.proofs.Common.{None, get_or}
use Rattle.kernel_model.proofs.Found.{marked_found}
use Rattle.kernel_model.proofs.calls.versions_fetched_are_there.Goals as goal

pub returns : goal.returns
returns c = λ whole base s n m h e. marked_found whole base s.history m (get_or s.marks n None) (h.marks n) e

use Rattle.std.proofs.Common.{◌∙◌, ℕ}
use Rattle.kernel_model.specs.Bounds.{bound_of}
use Rattle.kernel_model.specs.Intervals.{read_interval}
use Rattle.kernel_model.proofs.ForCallers.{bounds_interval, raised_same}
use Rattle.ver_table.specs.Chains.{chain_at}
use Rattle.ver_table.proofs.laws.bounds_give_interval.Goals as goal

pub returns : goal.returns
returns c = λ base history floor start reads run chains l same.
    raised_same (λ (o : ℕ). (chain_at chains o).bound) (λ (o : ℕ). bound_of floor o history) run.writes (read_interval base history start reads) same ∙ bounds_interval base history floor start reads run l

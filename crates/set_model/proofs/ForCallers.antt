-- What proofs above cite of this crate: names with one more behind them, what the limits say, and the formatted state.
use Rattle.std.proofs.Common.{◌≢◌, ℕ, List, [], ◌∷◌, ◌++◌}
use Rattle.std.specs.List.{AllByRecursion}
use Rattle.set_model.specs.Names.{AreDistinct}
use Rattle.nv_base.proofs.ForCallers.{all_with}
pub use Rattle.set_model.proofs.AtFacts.{all_at}
pub use Rattle.set_model.proofs.FormattedFacts.{formatted_is_base}
pub use Rattle.set_model.proofs.LimitFacts.{few_objects, few_records, most_objects, most_records, range_means, range_told}

pub distinct_with : (xs : List (List ℕ)) (y : List ℕ) → AreDistinct xs → AllByRecursion (λ x. x ≢ y) xs → AreDistinct (xs ++ y ∷ [])
distinct_with [] y d h = (tt, tt)
distinct_with (x ∷ xs) y d h = (all_with (λ later. x ≢ later) xs y d.0 h.0, distinct_with xs y d.1 h.1)

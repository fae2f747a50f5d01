-- The words that a device in memory began with: this project's own.
use Rattle.std.specs.Prelude.{ℕ, List}

-- these words, whether there is a list of them or not
pub record Start : Type 0 where
  pub items : List ℕ

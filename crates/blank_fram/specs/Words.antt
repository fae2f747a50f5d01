-- The words of a device, of which those at the end may be zeros without a list: this project's own.
use Rattle.std.specs.Prelude.{ℕ, List}

-- these words, whether there is a list of all of them or not
pub record Words : Type 0 where
  pub items : List ℕ

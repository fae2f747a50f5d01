-- Lines with a byte that is not allowed. This project's own.
use Rattle.std.specs.Prelude.{ℕ, Bool, not, List}
use Rattle.plain_text.specs.Words.{is_plain}

abbrev pub is_bad : List ℕ → Bool
is_bad line = not (is_plain line)

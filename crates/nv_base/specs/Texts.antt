-- A number as it stands in a text. This project's own.
use Rattle.std.specs.Prelude.{ℕ, List, ◌++◌}
use Rattle.std.specs.Fmt.{decimal}

-- a number in decimal, behind what stands before it
abbrev pub field : List ℕ → ℕ → List ℕ
field before n = before ++ decimal n

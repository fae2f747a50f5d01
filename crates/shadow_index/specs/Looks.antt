-- Looks in tables. This project's own.
use Rattle.std.specs.Prelude.{ℕ, List, [], get_or, slice_index}

-- the number in a row and a column
abbrev pub looked : List (List ℕ) → ℕ → ℕ → ℕ
looked table row column = slice_index (get_or table row []) column

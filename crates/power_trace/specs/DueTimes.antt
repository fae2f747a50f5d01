-- The on-times that are left, with the steps to the next failure as the first.
use Rattle.std.specs.Prelude.{ℕ, List, [], ◌∷◌, Option, Some, None}

abbrev pub due_times : Option ℕ → List ℕ → List ℕ
due_times None later = []
due_times (Some due) later = due ∷ later

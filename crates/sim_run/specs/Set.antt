-- The task set of the worked runs: one object, one program, one task. This project's own.
use Rattle.std.specs.Prelude.{ℕ, List, [], ◌∷◌, codes}
use Rattle.set_model.specs.Sets.{TaskSet}

-- one object `x` of one word, and one task of the program `add`
abbrev pub set_with : ℕ → List ℕ → ℕ → TaskSet
set_with value code argument = record {
  format = 1;
  cores = 1;
  memory = 1024;
  records = 1;
  objects = record { name = codes "x"; size = 1; slots = 2; first = value ∷ [] } ∷ [];
  programs = record { name = codes "add"; fuel = 100; code = code } ∷ [];
  tasks = record { program = 0; arg = argument } ∷ [];
}

-- Words read one after another: the first refusal is the answer. This project's own.
use Rattle.std.specs.Prelude.{List, [], ◌∷◌, Result, Ok}
use Rattle.nv_base.specs.Results.{◌>>=◌}

-- what each of some words says
abbrev pub each : {E X Y : Type 0} → (X → Result Y E) → List X → Result (List Y) E
each f [] = Ok []
each f (word ∷ words) = do
  first ← f word
  others ← each f words
  Ok (first ∷ others)

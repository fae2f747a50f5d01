-- The words of a device, and lists of writes: this project's own.
use Rattle.std.specs.Prelude.{ℕ, List, [], ◌∷◌, slice_set}

-- a place, and the word that is written there
abbrev pub Change : Type 0
Change = ℕ × ℕ

-- the words after some writes, the first of them first
abbrev pub made_in : List Change → List ℕ → List ℕ
made_in [] words = words
made_in (w ∷ log) words = made_in log (slice_set words w.0 w.1)

-- The text of words, one line for each. This project's own.
use Rattle.std.specs.Prelude.{ℕ, List, [], ◌∷◌, ◌++◌}
use Rattle.std.specs.List.{flat_map}
use Rattle.rv_isa.specs.Texts.{text_of}

-- the lines of words, each with its line feed
abbrev pub disassembled : List ℕ → List ℕ
disassembled words = flat_map (λ word. text_of word ++ 10 ∷ []) words

-- What an iterator over lines or over words has left.
use Rattle.std.specs.Prelude.{ℕ, List}
use Rattle.std.specs.Str.Lines.{lines}
use Rattle.plain_text.specs.Words.{words_in}
use Rattle.plain_text.specs.declared.lines.Lines.{Lines}
use Rattle.plain_text.specs.declared.words.Words.{Words}

abbrev pub lines_left : Lines → List (List ℕ)
lines_left s = lines s.rest.now

abbrev pub words_left : Words → List (List ℕ)
words_left s = words_in s.rest.now

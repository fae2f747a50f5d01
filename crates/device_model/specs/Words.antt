-- Words by their places, and lists of writes. This project's own.
use Rattle.std.specs.Prelude.{ℕ, zero, suc, ◌+◌, ◌==◌, List, [], ◌∷◌, if◌then◌else◌}
-- a write is a place and a word; the words of a list after some writes
pub use Rattle.fram_dev.specs.Device.{Change, made_in}

-- the word at each place of a device. Of a list of words it is slice_index, which is 0 behind the end
abbrev pub Words : Type 0
Words = ℕ → ℕ

-- the words after one write
abbrev pub with_word : Change → Words → Words
with_word w words place = if w.0 == place then w.1 else words place

-- the words after some writes, the first of them first
abbrev pub made : List Change → Words → Words
made [] words = words
made (w ∷ log) words = made log (with_word w words)

-- the writes that put a list of words from a place on
abbrev pub written_at : ℕ → List ℕ → List Change
written_at place [] = []
written_at place (word ∷ words) = (place, word) ∷ written_at (place + 1) words

-- so many words from a place on
abbrev pub words_from : Words → ℕ → ℕ → List ℕ
words_from words place zero = []
words_from words place (suc n) = words place ∷ words_from words (place + 1) n

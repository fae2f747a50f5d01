-- Words that are put in order of place. This project's own.
use Rattle.std.specs.Prelude.{◌≡◌, ℕ, ◌≤◌, List, ◌++◌, length, take}
use Rattle.device_model.specs.Words.{Change, Words, words_from, written_at}

-- the writes that put so many words of an image, from a place on
unfoldable pub puts : Words → (from count : ℕ) → List Change
puts w from count = written_at from (words_from w from count)

-- a log grew by these
abbrev pub HasPut : Words → (from count : ℕ) → (old new : List Change) → Type 0
HasPut w from count old new = new ≡ old ++ puts w from count

-- a log grew by the first of these
abbrev pub HasPutFront : Words → (from count : ℕ) → (old new : List Change) → Type 0
HasPutFront w from count old new = (k : ℕ) × (k ≤ count) × HasPut w from k old new

-- a log grew by the first of some writes
abbrev pub HasFront : (writes old new : List Change) → Type 0
HasFront writes old new = (k : ℕ) × (k ≤ length writes) × (new ≡ old ++ take k writes)

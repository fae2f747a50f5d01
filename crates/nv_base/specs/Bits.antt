-- A set of objects below 128 as one word: object k is in the set where bit k is 1.
use Rattle.std.specs.Prelude.{ℕ, ◌+◌, ◌^◌, ◌==◌, List, [], ◌∷◌, if◌then◌else◌}
use Rattle.std.proofs.Common.{zero, suc}
use Rattle.std.specs.Int.{bit_at}

-- the numbers of the bits that are 1, among n bits from bit k on, increasing
abbrev pub ones_from : ℕ → ℕ → ℕ → List ℕ
ones_from zero k word = []
ones_from (suc n) k word = if bit_at word k == 1 then k ∷ ones_from n (k + 1) word else ones_from n (k + 1) word

-- the objects of a word of 128 bits, increasing
unfoldable pub objects_of : ℕ → List ℕ
objects_of word = ones_from 128 0 word

-- the word of some objects
abbrev pub bits_word : List ℕ → ℕ
bits_word [] = 0
bits_word (x ∷ xs) = 2 ^ x + bits_word xs

-- Words in a memory of bytes, the low byte first (the RISC-V unprivileged ISA manual, section 1.4 "Memory":
-- little-endian).
use Rattle.std.specs.Prelude.{◌≡◌, ◌≤◌, ℕ, zero, suc, ◌+◌, ◌*◌, ◌/◌, ◌%◌, ◌^◌, List, [], ◌∷◌, slice_index, slice_set}

-- the half word and the word at an address
abbrev pub half_at : List ℕ → ℕ → ℕ
half_at memory at = slice_index memory at + slice_index memory (at + 1) * 2 ^ 8

abbrev pub word_at : List ℕ → ℕ → ℕ
word_at memory at =
    slice_index memory at + slice_index memory (at + 1) * 2 ^ 8 + slice_index memory (at + 2) * 2 ^ 16 + slice_index memory (at + 3) * 2 ^ 24

-- the words from an address on, so many
abbrev pub words_at : List ℕ → ℕ → ℕ → List ℕ
words_at memory at zero = []
words_at memory at (suc n) = word_at memory at ∷ words_at memory (at + 4) n

-- the memory with a half word, a word or words put at an address
abbrev pub put_half : List ℕ → ℕ → ℕ → List ℕ
put_half memory at half = slice_set (slice_set memory at (half % 2 ^ 8)) (at + 1) (half / 2 ^ 8)

abbrev pub put_word : List ℕ → ℕ → ℕ → List ℕ
put_word memory at word =
    slice_set (slice_set (slice_set (slice_set memory at (word % 2 ^ 8)) (at + 1) (word / 2 ^ 8 % 2 ^ 8)) (at + 2) (word / 2 ^ 16 % 2 ^ 8)) (at + 3) (word / 2 ^ 24)

abbrev pub put_words : List ℕ → ℕ → List ℕ → List ℕ
put_words memory at [] = memory
put_words memory at (word ∷ words) = put_words (put_word memory at word) (at + 4) words

-- the bytes of a word
abbrev pub bytes_of : ℕ → List ℕ
bytes_of word = word % 2 ^ 8 ∷ word / 2 ^ 8 % 2 ^ 8 ∷ word / 2 ^ 16 % 2 ^ 8 ∷ word / 2 ^ 24 ∷ []

-- all bytes from an address on are zero
abbrev pub IsZeroFrom : ℕ → List ℕ → Type 0
IsZeroFrom used memory = (k : ℕ) → used ≤ k → slice_index memory k ≡ 0

-- The words that stand in the slots of each object: this project's own.
use Rattle.std.specs.Prelude.{◌≡◌, ℕ, ◌<◌, ◌==◌, ◌&&◌, List, length, set, if◌then◌else◌}
use Rattle.kernel_model.specs.Sizes.{Sizes}

-- the words in each slot of each object
abbrev pub Image : Type 0
Image = (object slot : ℕ) → List ℕ

-- with another word at one place of one slot
abbrev pub with_word : (o k place word : ℕ) → Image → Image
with_word o k place word image p q =
    if p == o && q == k then set (image p q) place word else image p q

-- each slot has as many words as its object
abbrev pub IsSized : Sizes → Image → Type 0
IsSized sizes image =
    (o k : ℕ) → o < sizes.objects → k < sizes.slots o → length (image o k) ≡ sizes.size o

-- the same words in each slot
abbrev pub AreSame : Sizes → Image → Image → Type 0
AreSame sizes a b = (o k : ℕ) → o < sizes.objects → k < sizes.slots o → a o k ≡ b o k

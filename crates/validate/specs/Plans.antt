-- The free slots of what a finish writes, as they are looked for. This project's own.
use Rattle.std.specs.Prelude.{◌≡◌, ◌<◌, ℕ, true, false, is_some, List, Option, Some, None, slice_index}
use Rattle.object_sets.specs.ObjectSets.{is_among}
use Rattle.slot_model.specs.Tabled.{View, free_place}
use Rattle.ver_table.specs.Chains.{Chain, chain_at, holds_newest}

-- the least free slot of an object of a table, beside these attempts
abbrev pub free_in : List Chain → List View → ℕ → Option ℕ
free_in chains views o = free_place (chain_at chains o).slots o views (chain_at chains o).stored

-- it is this one, which is one of its slots, and not that of its newest version
pub record IsFreeIn (chains : List Chain) (views : List View) (o slot : ℕ) : Type 0 where
  pub free : free_in chains views o ≡ Some slot
  pub inside : slot < (chain_at chains o).slots
  pub older : holds_newest slot (chain_at chains o).stored ≡ false

-- each written object has a free slot
abbrev pub HaveSlots : List Chain → List View → (written slots : List ℕ) → Type 0
HaveSlots chains views written slots = (o : ℕ) → is_among o written ≡ true → IsFreeIn chains views o (slice_index slots o)

-- the least written object that has none
pub record IsFull (chains : List Chain) (views : List View) (written : List ℕ) (o : ℕ) : Type 0 where
  pub among : is_among o written ≡ true
  pub full : free_in chains views o ≡ None
  pub earlier : (j : ℕ) → j < o → is_among j written ≡ true → is_some (free_in chains views j) ≡ true

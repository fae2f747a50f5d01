-- What a finish makes of the table of versions. This project's own.
use Rattle.std.specs.Prelude.{◌≡◌, ℕ, ◌<◌, ◌≤◌, false, List, length, slice_index, if◌then◌else◌}
use Rattle.object_sets.specs.ObjectSets.{is_among}
use Rattle.ver_table.specs.Chains.{Chain, chain_at, holds_newest, installed, noted}
use Rattle.committed_state.specs.declared.joining.Joining.{Joining}

-- an object has a slot for a version that begins at a point: not the newest version's, and no finish behind that point has touched the object
pub record IsFreeAt (slot point : ℕ) (c : Chain) : Type 0 where
  pub inside : slot < c.slots
  pub older : holds_newest slot c.stored ≡ false
  pub bound : c.bound ≤ point

-- what the finish makes of an object, where this slot takes what it writes
abbrev pub touched_by : Joining → (o slot : ℕ) → Chain → Chain
touched_by j o slot c =
    if is_among o j.written then installed slot j.point.0 c
    else if is_among o j.reads then noted j.point.0 c
    else c

-- what it makes of the first objects; the others are as they were
pub record AreTouchedBy (j : Joining) (slots : List ℕ) (count : ℕ) (old new : List Chain) : Type 0 where
  pub number : length new ≡ length old
  pub first : (o : ℕ) → o < count → chain_at new o ≡ touched_by j o (slice_index slots o) (chain_at old o)
  pub rest : (o : ℕ) → count ≤ o → chain_at new o ≡ chain_at old o

use Rattle.std.proofs.Common.{◌≡◌, ℕ, true, false, List, length, map, take}
use Rattle.std.specs.Prelude.{slice_index}
use Rattle.object_sets.specs.ObjectSets.{AreBelow, is_among}
use Rattle.interval.specs.Ranges.{range_of}
use Rattle.slot_model.specs.Tabled.{View}
use Rattle.ver_table.specs.Tabled.{AreViews}
use Rattle.validate.specs.Plans.{IsFreeIn}
use Rattle.validate.proofs.slots.free_slots.Given as goal

-- what is written and no longer left has its slot
abbrev pub invariant-loop-o : goal.invariant-loop-o
invariant-loop-o l = record {
  long : length l.slots ≡ 128;
  below : AreBelow (length l.versions) l.left;
  written : (j : ℕ) → is_among j l.left ≡ true → is_among j l.fn.written ≡ true;
  free : (views : List View) → AreViews views (map range_of (take l.beside.attempts l.beside.intervals)) (take l.beside.copies l.beside.pins)
      → (j : ℕ) → is_among j l.fn.written ≡ true → is_among j l.left ≡ false → IsFreeIn l.versions views j (slice_index l.slots j);
}

abbrev pub decreases-loop-o : goal.decreases-loop-o
decreases-loop-o l = length l.left

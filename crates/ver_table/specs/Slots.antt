-- How a chain lies in memory: the slots of its versions, newest first, and each slot's begin and end. This project's own.
use Rattle.std.specs.Prelude.{◌≡◌, ◌<◌, ◌≤◌, ℕ, false, List, [], ◌∷◌, Option, None, is_none, get_or, length, map}
use Rattle.std.specs.List.{AllByRecursion}
use Rattle.object_sets.specs.ObjectSets.{is_among}
use Rattle.nv_base.specs.declared.limits.TheConstants.{MAX_SLOTS}
use Rattle.nv_base.specs.declared.ids.Point.{Point}
use Rattle.interval.specs.Ranges.{number_of}
use Rattle.ver_table.specs.Chains.{Chain, Place}

-- slots below a number, none of them twice
abbrev pub AreSlots : ℕ → List ℕ → Type 0
AreSlots n [] = Unit {0}
AreSlots n (k ∷ ks) = (k < n) × (is_among k ks ≡ false) × AreSlots n ks

-- the begin of what a slot has
abbrev pub begin_at : List Point → ℕ → ℕ
begin_at begins k = (get_or begins k (record { 0 = 0 })).0

-- its end, if it has ended
abbrev pub end_at : List (Option Point) → ℕ → Option ℕ
end_at ends k = number_of (get_or ends k None)

-- the version in a slot
abbrev pub stored_at : List Point → List (Option Point) → ℕ → Place
stored_at begins ends k = record { slot = k; begin = begin_at begins k; end = end_at ends k }

-- the newest version lives on, and all older ones have ended
abbrev pub AreEnded : List Place → Type 0
AreEnded [] = Unit {0}
AreEnded (v ∷ vs) = (v.end ≡ None) × AllByRecursion (λ u. is_none u.end ≡ false) vs

-- at most as many slots as the limits allow, of which one at least has a version, and all versions but the newest have ended
pub record IsKept (slots : ℕ) (order : List ℕ) (stored : List Place) : Type 0 where
  pub few : slots ≤ MAX_SLOTS
  pub some : 1 ≤ length order
  pub are : AreSlots slots order
  pub ended : AreEnded stored

-- at most as many slots as the limits allow, of which one at least has a version, and none has two
pub record IsLaid (c : Chain) : Type 0 where
  pub few : c.slots ≤ MAX_SLOTS
  pub some : 1 ≤ length c.stored
  pub are : AreSlots c.slots (map (λ v. v.slot) c.stored)

-- Which slots are free for a new version. This project's own.
use Rattle.std.specs.Prelude.{◌≡◌, ◌<◌, ℕ, ◌+◌, ◌==◌, nat_le, Bool, true, false, ◌||◌, ◌&&◌, List, [], ◌∷◌, if◌then◌else◌, Option, MatchOption}
use Rattle.std.specs.List.{list_any}
use Rattle.interval.specs.declared.version.Pin.{Pin}
use Rattle.kernel_model.specs.Intervals.{Interval}
use Rattle.kernel_model.specs.Room.{meet}
use Rattle.ver_table.specs.Chains.{Chain, Place, lived}

-- a pin names this slot of this object
abbrev pub is_pinned : ℕ → List Pin → ℕ → Bool
is_pinned o pins k = list_any (λ p. p.object.0 == o && p.slot == k) pins

-- the version's life meets one of these intervals
abbrev pub is_met : List Interval → Place → Bool
is_met others v = list_any (λ i. meet (lived v.begin v.end) i) others

-- another attempt copies the version, or its interval of reads meets the version's life
abbrev pub is_needed : ℕ → List Interval → List Pin → Place → Bool
is_needed o others pins v = is_pinned o pins v.slot || is_met others v

-- the slot holds the newest version, or an older one that is needed
abbrev pub is_taken : (Place → Bool) → List Place → ℕ → Bool
is_taken needed [] k = false
is_taken needed (v ∷ vs) k = v.slot == k || list_any (λ u. u.slot == k && needed u) vs

-- how many of these versions are needed
abbrev pub count : (Place → Bool) → List Place → ℕ
count needed [] = 0
count needed (v ∷ vs) = if needed v then count needed vs + 1 else count needed vs

-- all but the newest
abbrev pub all_older : List Place → List Place
all_older [] = []
all_older (v ∷ vs) = vs

-- the newest version, the needed ones and one more are at most the slots
abbrev pub has_place : (Place → Bool) → Chain → Bool
has_place needed c = nat_le (1 + count needed (all_older c.stored) + 1) c.slots

-- the least slot that is free
pub record IsLeastFree (needed : Place → Bool) (c : Chain) (k : ℕ) : Type 0 where
  pub inside : k < c.slots
  pub free : is_taken needed c.stored k ≡ false
  pub least : (j : ℕ) → j < k → is_taken needed c.stored j ≡ true

-- what a search for a free slot answers: none where there is no place, and else the least one
abbrev pub IsFreeSlot : (Place → Bool) → Chain → Option ℕ → Type 0
IsFreeSlot needed c slot =
    MatchOption slot (has_place needed c ≡ false) (λ k. (has_place needed c ≡ true) × IsLeastFree needed c k)

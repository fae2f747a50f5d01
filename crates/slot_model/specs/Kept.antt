-- Which versions are kept in which slots, as tables keep them: this project's own.
use Rattle.std.specs.Prelude.{◌≡◌, ℕ, ◌==◌, nat_lt, Bool, not, ◌&&◌, ◌||◌, is_none, List, [], ◌∷◌, map, filter, Option, Some, None, if◌then◌else◌}
use Rattle.std.specs.List.{list_any}
use Rattle.kernel_model.specs.Items.{FinishRecord}
use Rattle.kernel_model.specs.Versions.{Version}
use Rattle.object_sets.specs.Pairs.{AllPairsByRecursion}

-- a version of an object, as it is seen since the last boot, and the slot that was chosen for it
pub record Held : Type 0 where
  pub slot : ℕ
  pub version : Version

-- what is kept
pub record Kept : Type 0 where
  pub chains : ℕ → List Held  -- of each object, newest first
  pub plan : ℕ → ℕ  -- the slot of each object that the commit under way writes
  pub pins : ℕ → ℕ  -- the slot that each core copies from

-- the versions of a chain
abbrev pub versions_in : List Held → List Version
versions_in chain = map (λ h. h.version) chain

-- no two stand in the same slot
abbrev pub AreApart : List Held → Type 0
AreApart = AllPairsByRecursion (λ h g. h.slot ≡ g.slot → ⊥)

-- whether a version must stand: it is the newest, or it is needed
abbrev pub must_stand : (Version → Bool) → Held → Bool
must_stand needed h = is_none h.version.end || needed h.version

-- whether slot k has the version of this writer
abbrev pub is_there : (k writer : ℕ) → List Held → Bool
is_there k writer chain = list_any (λ h. h.slot == k && h.version.writer == writer) chain

-- the slot of the newest version
abbrev pub newest_slot : List Held → ℕ
newest_slot [] = 0
newest_slot (h ∷ chain) = h.slot

-- the slot of a version, if there is one
abbrev pub slot_in : Option Held → ℕ
slot_in None = 0
slot_in (Some h) = h.slot

-- the newest that begins before hi
abbrev pub chosen_held : Option ℕ → List Held → Option Held
chosen_held hi [] = None
chosen_held None (h ∷ chain) = Some h
chosen_held (Some hi) (h ∷ chain) =
    if nat_lt h.version.begin hi then Some h else chosen_held (Some hi) chain

-- without what stands in slot k
abbrev pub without_slot : ℕ → List Held → List Held
without_slot k chain = filter (λ h. not (h.slot == k)) chain

-- the newest version ends at p, and what stood in slot k is gone
abbrev pub retired : (p k : ℕ) → List Held → List Held
retired p k [] = []
retired p k (h ∷ chain) =
    record h { version = record h.version { end = Some p } } ∷ without_slot k chain

-- with the version that a finish makes, in slot k
abbrev pub with_held : FinishRecord → Option (List ℕ) → (k : ℕ) → List Held → List Held
with_held i None k chain = chain
with_held i (Some words) k chain =
    let made : Version = record { writer = i.number; begin = i.point; end = None; words = words } in
    record { slot = k; version = made } ∷ retired i.point k chain

-- the newest alone, as it is seen after a boot
abbrev pub newest_alone : (clock : ℕ) → List Held → List Held
newest_alone clock [] = []
newest_alone clock (h ∷ chain) = record h { version = record h.version { begin = clock } } ∷ []

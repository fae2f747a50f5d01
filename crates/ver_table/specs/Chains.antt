-- What the table keeps of each object: the versions that stand in its slots, newest first, and one bound. This project's own.
use Rattle.std.specs.Prelude.{◌≡◌, ◌<◌, ℕ, ◌==◌, max, Bool, false, not, List, [], ◌∷◌, Option, Some, None, filter, find, get_or, length, slice_index}
use Rattle.kernel_model.specs.Versions.{Version}
use Rattle.kernel_model.specs.Room.{is_below}
-- a version: the slot that has its words, the first point of its life, and the first point after it, if it has ended
pub use Rattle.slot_model.specs.Tabled.{Place}

-- an object: how many slots it has, the greatest point that read or wrote it, and its versions, newest first
pub record Chain : Type 0 where
  pub slots : ℕ
  pub bound : ℕ
  pub stored : List Place

-- a version of the model that lives from begin to end; its writer and its words are of no account
abbrev pub lived : ℕ → Option ℕ → Version
lived begin end = record { writer = 0; begin = begin; end = end; words = [] }

-- the newest version that begins before hi
abbrev pub newest_before : Option ℕ → List Place → Option Place
newest_before hi vs = find (λ v. is_below v.begin hi) vs

-- the version in a slot
abbrev pub in_slot : ℕ → List Place → Option Place
in_slot k vs = find (λ v. v.slot == k) vs

-- all versions but that in a slot
abbrev pub without : ℕ → List Place → List Place
without k vs = filter (λ v. not (v.slot == k)) vs

-- whether a slot holds the newest version
abbrev pub holds_newest : ℕ → List Place → Bool
holds_newest k [] = false
holds_newest k (v ∷ vs) = v.slot == k

-- the newest version ends at p
abbrev pub newest_ended : ℕ → List Place → List Place
newest_ended p [] = []
newest_ended p (v ∷ vs) = record v { end = Some p } ∷ vs

-- a new version, begun at p, comes into a slot in place of what the slot held, and the newest ends
abbrev pub installed : ℕ → ℕ → Chain → Chain
installed k p c = record { slots = c.slots; bound = p; stored = record { slot = k; begin = p; end = None } ∷ newest_ended p (without k c.stored) }

-- a finish at p read or wrote the object
abbrev pub noted : ℕ → Chain → Chain
noted p c = record { slots = c.slots; bound = max p c.bound; stored = c.stored }

-- one version alone, begun at p
abbrev pub one_version : ℕ → ℕ → ℕ → Chain
one_version slots k p = record { slots = slots; bound = p; stored = record { slot = k; begin = p; end = None } ∷ [] }

-- what is kept of an object
abbrev pub chain_at : List Chain → ℕ → Chain
chain_at chains o = get_or chains o (record { slots = 0; bound = 0; stored = [] })

-- each object has one version alone, begun at p in the slot that is named, and as many slots as are told
pub record AreOpened (slots named : List ℕ) (p : ℕ) (chains : List Chain) : Type 0 where
  pub number : length chains ≡ length slots
  pub each : (o : ℕ) → o < length slots → chain_at chains o ≡ one_version (slice_index slots o) (slice_index named o) p

-- a slot is named for each object, below the number of its slots
pub record AreNamed (slots named : List ℕ) : Type 0 where
  pub number : length named ≡ length slots
  pub each : (o : ℕ) → o < length slots → slice_index named o < slice_index slots o

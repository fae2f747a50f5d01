-- What must stand in the slots of each object, and what must be true of the state: this project's own.
use Rattle.std.specs.Prelude.{◌≡◌, ℕ, ◌-◌, ◌<◌, ◌≤◌, Bool, true, List, [], ◌∷◌, Option, Some, get_or}
use Rattle.std.specs.List.{AllByRecursion}
use Rattle.kernel_model.specs.Sizes.{Sizes}
use Rattle.kernel_model.specs.Effects.{Write, object_words, written}
use Rattle.kernel_model.specs.Items.{FinishRecord}
use Rattle.kernel_model.specs.Replay.{DeviceState, max_id, next_id}
use Rattle.kernel_model.specs.Worlds.{World}
use Rattle.kernel_model.specs.Versions.{Read, Version, versions}
use Rattle.kernel_model.specs.Intervals.{Interval}
use Rattle.kernel_model.specs.Cores.{Core, Idle, Copying, Committing}
use Rattle.kernel_model.specs.Room.{interval_of, is_needed}
use Rattle.kernel_model.specs.Turns.{commit_writes}
use Rattle.kernel_model.specs.Events.{State}
use Rattle.kernel_model.specs.Durable.{listed, state_left}
use Rattle.kernel_model.specs.Fit.{IsSetUp}
use Rattle.kernel_model.specs.Sound.{IsSound}
use Rattle.kernel_model.specs.Chain.{IsChain, IsFloor, floored}
use Rattle.slot_model.specs.Slots.{Image, IsSized}
use Rattle.slot_model.specs.Kept.{Held, Kept, AreApart, chosen_held, is_there, must_stand, newest_slot, versions_in}
use Rattle.slot_model.specs.Store.{AreWritten, Target}
use Rattle.slot_model.specs.Changes.{named_slot}
use Rattle.slot_model.specs.Tabled.{AreTables, Tables, View, view_of}

-- of these versions of an object those that must stand do, each in a slot of its own. A slot with none of them may hold anything
pub record AreStanding (slots floor : ℕ) (needed : Version → Bool) (words_at : ℕ → List ℕ)
    (all : List Version) (chain : List Held) : Type 0 where
  pub chained : IsChain floor needed (versions_in chain) all
  pub places : AllByRecursion (λ h. h.slot < slots) chain
  pub apart : AreApart chain
  pub words : AllByRecursion (λ h. must_stand needed h ≡ true
      → words_at h.slot ≡ h.version.words) chain

-- slot k has no version that must stand
pub record IsSpare (slots : ℕ) (needed : Version → Bool) (chain : List Held) (k : ℕ) : Type 0 where
  pub place : k < slots
  pub spare : AllByRecursion (λ h. must_stand needed h ≡ true → h.slot ≡ k → ⊥) chain

-- slot k has the version of the newest read
abbrev pub IsPinned : (ℕ → List Held) → (k : ℕ) → List Read → Type 0
IsPinned chains k [] = Unit {0}
IsPinned chains k (r ∷ reads) = is_there k r.writer (chains r.object) ≡ true

-- a commit under way with so many writes left: its slots are spare, and its first words stand there
pub record IsUnderWay {M : Type 0} (sizes : Sizes) (base : DeviceState) (history : List FinishRecord)
    (cores : List (Core M)) (kept : Kept) (image : Image) (i : FinishRecord) (left : ℕ) : Type 0 where
  pub few : left ≤ commit_writes sizes base history i
  pub spare : AllByRecursion
      (λ w. IsSpare (sizes.slots w.object) (is_needed base history w.object cores)
      (kept.chains w.object) (kept.plan w.object)) i.run.writes
  pub written : AreWritten sizes kept.plan image
      (commit_writes sizes base history i - left) i.run.writes

-- what core n needs of slots
abbrev pub IsServed : {M : Type 0} → Sizes → DeviceState → List FinishRecord → List (Core M) → Kept → Image → ℕ
    → Core M → Type 0
IsServed sizes base history cores kept image n (Copying a copied) =
    IsPinned kept.chains (kept.pins n) a.reads
IsServed sizes base history cores kept image n (Committing i left) =
    IsUnderWay sizes base history cores kept image i left
IsServed sizes base history cores kept image n _ = Unit {0}

-- the image and what is kept stand for a history and what cores do, where the clock at the last boot was floor
pub record Stands {M : Type 0} (sizes : Sizes) (base : DeviceState) (floor : ℕ) (history : List FinishRecord)
    (cores : List (Core M)) (kept : Kept) (image : Image) : Type 0 where
  pub starts : (k : ℕ) (i : Interval) → interval_of base history (get_or cores k Idle) ≡ Some i
      → floor ≤ i.lo
  pub sized : IsSized sizes image
  pub objects : (o : ℕ) → o < sizes.objects
      → AreStanding (sizes.slots o) floor (is_needed base history o cores) (image o)
      (versions base o history) (kept.chains o)
  pub served : (n : ℕ) → IsServed sizes base history cores kept image n (get_or cores n Idle)

-- they stand for a state
pub record StandsFor {M : Type 0} (sizes : Sizes) (base : DeviceState) (floor : ℕ) (s : State M)
    (kept : Kept) (image : Image) : Type 0 where
  pub since : IsFloor base floor s
  pub stands : Stands sizes base floor s.history s.cores kept image

-- what must be true of the state. It is so after any events of a run: laws of the kernel's model
pub record IsLawful {M : Type 0} (world : World M) (s : State M)
    : Type 0 where
  pub set_up : IsSetUp world
  pub sound : IsSound world s
  pub ids : next_id world.base s.history ≤ max_id

-- the slots that the durable index names have the durable objects
pub record IsNamed {M : Type 0} (sizes : Sizes) (base : DeviceState) (s : State M) (kept : Kept)
    (image : Image) (o : ℕ) : Type 0 where
  pub slot : named_slot s kept o < sizes.slots o
  pub words : image o (named_slot s kept o) ≡ object_words (state_left base (listed s)).objects o

-- a commit may write its version of an object: its slot has no version that must stand, and is not that of the newest
pub record IsFree {M : Type 0} (sizes : Sizes) (base : DeviceState) (history : List FinishRecord)
    (cores : List (Core M)) (kept : Kept) (w : Write) : Type 0 where
  pub object : w.object < sizes.objects
  pub spare : IsSpare (sizes.slots w.object) (is_needed base history w.object cores)
      (kept.chains w.object) (kept.plan w.object)
  pub other : kept.plan w.object ≡ newest_slot (kept.chains w.object) → ⊥

-- the version that an attempt chooses before hi is held, and stands in its slot
pub record IsChosen (sizes : Sizes) (floor o : ℕ) (hi : Option ℕ) (chain : List Held)
    (image : Image) (v : Version) : Type 0 where
  pub held : Held
  pub chosen_is : chosen_held hi chain ≡ Some held
  pub version_is : held.version ≡ floored floor v
  pub place : held.slot < sizes.slots o
  pub words : image o held.slot ≡ v.words

-- a word that a commit writes, with its place in a slot of its object
pub record IsTarget (sizes : Sizes) (kept : Kept) (ws : List Write) (t : Target) : Type 0 where
  pub object : t.object < sizes.objects
  pub slot : kept.plan t.object < sizes.slots t.object
  pub place : t.place < sizes.size t.object
  pub words : List ℕ
  pub written_is : written ws t.object ≡ Some words
  pub word_is : t.word ≡ get_or words t.place 0

-- what a kernel keeps stands for a state: what must stand does, and its tables and its views of attempts are those of the state
pub record IsTabled {M : Type 0} (sizes : Sizes) (base : DeviceState) (floor : ℕ) (s : State M)
    (kept : Kept) (image : Image) (t : Tables) (views : ℕ → Option View) : Type 0 where
  pub stands : StandsFor sizes base floor s kept image
  pub tables : AreTables sizes base floor s.history kept t
  pub viewed : (k : ℕ) → views k ≡ view_of base s.history (kept.pins k) (get_or s.cores k Idle)

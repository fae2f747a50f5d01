-- What the record of an object stands for in the kernel's model. This project's own.
use Rattle.std.specs.Prelude.{◌≡◌, ℕ, ◌==◌, Bool, true, false, not, List, [], ◌∷◌, Option, Some, None, filter, find, if◌then◌else◌, map}
use Rattle.std.specs.List.{AllByRecursion, list_any}
use Rattle.interval.specs.declared.version.Pin.{Pin}
use Rattle.kernel_model.specs.Effects.{written, object_words}
use Rattle.kernel_model.specs.Items.{FinishRecord}
use Rattle.kernel_model.specs.Replay.{DeviceState}
use Rattle.kernel_model.specs.Versions.{Read, Version, versions}
use Rattle.kernel_model.specs.Intervals.{Interval, touches}
use Rattle.kernel_model.specs.Cores.{Core, Idle, Running, Copying, Ready, Committing}
use Rattle.kernel_model.specs.Room.{interval_of, is_below, is_copied_by, is_needed}
use Rattle.kernel_model.specs.Events.{State}
use Rattle.kernel_model.specs.Live.{CallState, cores_of}
use Rattle.kernel_model.specs.Chain.{IsChain, floored}
use Rattle.kernel_model.specs.Bounds.{bound_of}
use Rattle.ver_table.specs.Chains.{Chain, Place, holds_newest, installed, newest_before, noted}
use Rattle.ver_table.specs.Places.{is_pinned}

-- a slot, and the version of the model that it holds, as it is seen after a boot
pub record Held : Type 0 where
  pub slot : ℕ
  pub version : Version

-- the base's version of an object, in a slot
abbrev pub first_held : DeviceState → (o slot : ℕ) → Held
first_held base o slot = record {
  slot = slot;
  version = record { writer = base.number; begin = base.clock; end = None; words = object_words base.objects o };
}

-- as the table has it
abbrev pub stored_of : Held → Place
stored_of h = record { slot = h.slot; begin = h.version.begin; end = h.version.end }

-- the versions that are held
abbrev pub versions_of : List Held → List Version
versions_of held = map (λ h. h.version) held

-- all but that in a slot
abbrev pub held_without : ℕ → List Held → List Held
held_without k held = filter (λ h. not (h.slot == k)) held

-- the newest ends at p
abbrev pub held_ended : ℕ → List Held → List Held
held_ended p [] = []
held_ended p (h ∷ held) = record { slot = h.slot; version = record h.version { end = Some p } } ∷ held

-- the version of a finish comes into a slot, in place of what the slot held
abbrev pub held_with : ℕ → FinishRecord → List ℕ → List Held → List Held
held_with k i words held = record { slot = k; version = record { writer = i.number; begin = i.point; end = None; words = words } } ∷ held_ended i.point (held_without k held)

-- an object after a finish, of which the plan has the slot for each object's new version
abbrev pub after_finish : (ℕ → ℕ) → FinishRecord → ℕ → Option (List ℕ) → Chain → Chain
after_finish plan i o None c = if touches i o then noted i.point c else c
after_finish plan i o (Some words) c = installed (plan o) i.point c

-- after the finish that joins, if one does
abbrev pub after_joining : (ℕ → ℕ) → Option FinishRecord → ℕ → Chain → Chain
after_joining plan None o c = c
after_joining plan (Some i) o c = after_finish plan i o (written i.run.writes o) c

-- what its slots then hold
abbrev pub held_after : (ℕ → ℕ) → FinishRecord → ℕ → Option (List ℕ) → List Held → List Held
held_after plan i o None held = held
held_after plan i o (Some words) held = held_with (plan o) i words held

abbrev pub held_joining : (ℕ → ℕ) → Option FinishRecord → ℕ → List Held → List Held
held_joining plan None o held = held
held_joining plan (Some i) o held = held_after plan i o (written i.run.writes o) held

-- the record of object o stands for a history: its slots hold the newest version and all older ones that somebody needs, as they are seen from floor, which was the clock at the last boot, and its bound is that of the object
pub record StandsFor (floor : ℕ) (needed : Version → Bool) (base : DeviceState) (o : ℕ) (history : List FinishRecord) (c : Chain) (held : List Held) : Type 0 where
  pub stored : c.stored ≡ map stored_of held
  pub chain : IsChain floor needed (versions_of held) (versions base o history)
  pub bound : c.bound ≡ bound_of floor o history

-- it stands for that of a state, with what the cores of the state need
abbrev pub StandsIn : {M : Type 0} → ℕ → DeviceState → State M → ℕ → Chain → List Held → Type 0
StandsIn floor base s o c held = StandsFor floor (is_needed base s.history o s.cores) base o s.history c held

-- it stands for that of the machine of calls, with what the callers need
abbrev pub StandsLive : DeviceState → CallState → ℕ → Chain → List Held → Type 0
StandsLive base s o c held = StandsFor base.clock (is_needed base s.history o (cores_of s.marks)) base o s.history c held

-- the intervals of reads of those cores that have one
abbrev pub intervals_of : {M : Type 0} → DeviceState → List FinishRecord → List (Core M) → List Interval
intervals_of base history [] = []
intervals_of base history (c ∷ cores) = elim (interval_of base history c) [ None ↦ intervals_of base history cores | Some i ↦ i ∷ intervals_of base history cores ]

-- these are the intervals of reads of some cores, and the pins of what they copy
pub record AreOthers {M : Type 0} (base : DeviceState) (history : List FinishRecord) (o : ℕ) (held : List Held) (cores : List (Core M)) (others : List Interval) (pins : List Pin) : Type 0 where
  pub intervals_are : others ≡ intervals_of base history cores
  pub pins_are : AllByRecursion (λ h. is_pinned o pins h.slot ≡ list_any (is_copied_by o h.version) cores) held

-- the first version that begins before hi
abbrev pub held_before : Option ℕ → List Held → Option Held
held_before hi held = find (λ h. is_below h.version.begin hi) held

-- a version of the model that was chosen, and the slot that holds it
pub record IsHeldAs (floor : ℕ) (hi : Option ℕ) (c : Chain) (held : List Held) (v : Version) (h : Held) : Type 0 where
  pub found : held_before hi held ≡ Some h
  pub stored : newest_before hi c.stored ≡ Some (stored_of h)
  pub version : h.version ≡ floored floor v

-- what a slot holds is not needed
abbrev pub IsUnneeded : (Version → Bool) → ℕ → List Held → Type 0
IsUnneeded needed k held = AllByRecursion (λ h. (h.slot == k) ≡ true → needed h.version ≡ false) held

-- it is needed by none of these cores
abbrev pub IsSpare : {M : Type 0} → DeviceState → List FinishRecord → ℕ → List (Core M) → ℕ → List Held → Type 0
IsSpare base history o cores k held = IsUnneeded (is_needed base history o cores) k held

-- what is in a slot
abbrev pub held_in : ℕ → List Held → Option Held
held_in k held = find (λ h. h.slot == k) held

-- a pin of the newest read, in a slot that holds the version that was read if it is one of object o
pub record IsPinOf (o : ℕ) (held : List Held) (r : Read) (p : Pin) : Type 0 where
  pub object : p.object.0 ≡ r.object
  pub holds : r.object ≡ o → (h : Held) × (held_in p.slot held ≡ Some h) × (h.version.writer ≡ r.writer)

abbrev pub IsPinOfNewest : ℕ → List Held → List Read → Pin → Type 0
IsPinOfNewest o held [] p = ⊥
IsPinOfNewest o held (r ∷ reads) p = IsPinOf o held r p

-- the pins of those cores that copy, in their order
abbrev pub ArePins : {M : Type 0} → ℕ → List Held → List (Core M) → List Pin → Type 0
ArePins o held [] pins = pins ≡ []
ArePins o held (Idle ∷ cores) pins = ArePins o held cores pins
ArePins o held (Running a ∷ cores) pins = ArePins o held cores pins
ArePins o held (Copying a copied ∷ cores) pins = (p : Pin) × (rest : List Pin) × (pins ≡ p ∷ rest) × IsPinOfNewest o held a.reads p × ArePins o held cores rest
ArePins o held (Ready a outcome ∷ cores) pins = ArePins o held cores pins
ArePins o held (Committing i left ∷ cores) pins = ArePins o held cores pins

-- a slot for a new version does not hold the newest version, and nothing that somebody needs
pub record IsFreeFor (needed : Version → Bool) (k : ℕ) (c : Chain) (held : List Held) : Type 0 where
  pub older : holds_newest k c.stored ≡ false
  pub spare : IsUnneeded needed k held

-- the plan has such a slot for object o if the finish that joins writes it
abbrev pub IsPlannedFor : (Version → Bool) → (ℕ → ℕ) → ℕ → Option (List ℕ) → Chain → List Held → Type 0
IsPlannedFor needed plan o None c held = Unit {0}
IsPlannedFor needed plan o (Some words) c held = IsFreeFor needed (plan o) c held

abbrev pub IsPlanned : (Version → Bool) → (ℕ → ℕ) → Option FinishRecord → ℕ → Chain → List Held → Type 0
IsPlanned needed plan None o c held = Unit {0}
IsPlanned needed plan (Some i) o c held = IsPlannedFor needed plan o (written i.run.writes o) c held

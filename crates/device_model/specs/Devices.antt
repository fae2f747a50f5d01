-- A device of a kind, for a task set, and what the laws say of it in few words. This project's own.
use Rattle.std.specs.Prelude.{◌≡◌, ℕ, ◌+◌, ◌<◌, Bool, List, length, take, Option}
use Rattle.kernel_model.specs.Items.{Entry, FinishRecord}
use Rattle.kernel_model.specs.Replay.{DeviceState}
use Rattle.kernel_model.specs.Durable.{Durable, last_of, state_left}
use Rattle.set_model.specs.Sets.{TaskSet, object_at}
use Rattle.device_model.specs.Words.{Change, Words, made, words_from}
use Rattle.device_model.specs.Layouts.{IsKindOf, Kind, Plain, Migrated, Layout, layout_of, need, read_place, slot_place}
use Rattle.device_model.specs.IndexWords.{Index, read_index}
use Rattle.device_model.specs.Decoding.{Held, Holds, decode, held_by, index_in, is_faulty_read}
use Rattle.device_model.specs.Keeping.{IsFree, IsHeld, Keeps}
use Rattle.device_model.specs.Formats.{format_writes, formatted_held}
use Rattle.device_model.specs.Commits.{Commit, IsUnderWay, commit_writes, committed}
use Rattle.device_model.specs.Journals.{Act, AreNext, held_at, journal}

-- of which kind it is, and for which set
pub record Device : Type 0 where
  pub kind : Kind
  pub set : TaskSet

-- of format 1
abbrev pub plain : TaskSet → Device
plain set = record { kind = Plain; set = set }

-- of format 1 first, and then migrated to format 2
abbrev pub migrated : TaskSet → Device
migrated set = record { kind = Migrated; set = set }

-- where its words stand
abbrev pub layout_on : Device → Layout
layout_on d = layout_of d.kind d.set

-- how many words it needs
abbrev pub need_on : Device → ℕ
need_on d = need (layout_on d) d.set

-- there is such a word of such a slot
abbrev pub IsSlotWord : TaskSet → (object slot i : ℕ) → Type 0
IsSlotWord set o slot i =
    (o < length set.objects) × (slot < (object_at set o).slots) × (i < (object_at set o).size)

-- its place
abbrev pub slot_on : Device → (object slot i : ℕ) → ℕ
slot_on d o slot i = slot_place (layout_on d) d.set o slot + i

-- all words of a slot
abbrev pub slot_words_on : Device → Words → (object slot : ℕ) → List ℕ
slot_words_on d words o slot =
    words_from words (slot_place (layout_on d) d.set o slot) (object_at d.set o).size

-- the place of the word that is read as number j, by the root that stands there
abbrev pub read_on : Device → Words → (j : ℕ) → ℕ
read_on d words j = read_place (layout_on d) (words (layout_on d).root) j

-- whether that word is faulty
abbrev pub is_faulty_on : Device → Words → (j : ℕ) → Bool
is_faulty_on d words j = is_faulty_read (layout_on d) d.set words j

-- the index that its words tell
abbrev pub index_on : Device → Words → Index
index_on d words = read_index (length d.set.objects) (index_in (layout_on d) words)

-- the state that they tell
abbrev pub held_on : Device → Words → Held
held_on d words = held_by (layout_on d) d.set words (index_on d words)

-- a state is one that it may have
abbrev pub IsHeldOn : Device → Held → Type 0
IsHeldOn d h = IsHeld d.set (layout_on d) h

-- its words keep a state
abbrev pub KeepsOn : Device → Held → Words → Type 0
KeepsOn d h words = Keeps d.kind d.set h words

-- they decode to a state
abbrev pub HoldsOn : Device → Held → Words → Type 0
HoldsOn d h words = decode d.set words ≡ Holds d.kind h

-- devices of this kind are looked for: of format 1 for a set of format 1, and of each kind for one of format 2
abbrev pub IsKindOn : Device → Type 0
IsKindOn d = IsKindOf d.set.format d.kind

-- a place on which a state does not rest
abbrev pub IsFreeOn : Device → Held → ℕ → Type 0
IsFreeOn d h p = IsFree d.set (layout_on d) h p

-- the writes of a format
abbrev pub format_on : Device → List Change
format_on d = format_writes (layout_on d) d.set

-- the state that they leave
abbrev pub first_on : Device → Held
first_on d = formatted_held (layout_on d) d.set

-- the writes of a commit
abbrev pub commit_on : Device → Held → Commit → List Change
commit_on d h c = commit_writes (layout_on d) d.set h c

-- the state that they leave
abbrev pub committed_on : Device → Held → Commit → Held
committed_on d h c = committed (layout_on d) d.set h c

-- so many writes of a commit are made
abbrev pub IsUnderWayOn : Device → Held → Commit → ℕ → Words → Type 0
IsUnderWayOn d h c count words = IsUnderWay d.set (layout_on d) h c count words

-- commits, cut commits and boots that may follow one another
abbrev pub AreNextOn : Device → Held → List Act → Type 0
AreNextOn d h acts = AreNext (layout_on d) d.set h acts

-- their writes
abbrev pub journal_on : Device → Held → List Act → List Change
journal_on d h acts = journal (layout_on d) d.set h acts

-- the state after k of these
abbrev pub reached_on : Device → Held → List Act → ℕ → Held
reached_on d h acts k = held_at (layout_on d) d.set h acts k

-- what is durable after a history, on a base with its last finish
abbrev pub left_after : DeviceState → Option Entry → (boots : ℕ) → List FinishRecord → Durable
left_after base last boots history = record {
  state = state_left base history;
  last = last_of last history;
  boots = boots;
}

-- the words after the first k writes of a list
abbrev pub image_after : (k : ℕ) → List Change → Words → Words
image_after k log words = made (take k log) words

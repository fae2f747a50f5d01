-- The writes of a commit, and the state that it leaves. This project's own.
use Rattle.std.specs.Prelude.{◌≡◌, ◌≢◌, ℕ, zero, suc, max, ◌+◌, ◌-◌, ◌*◌, ◌/◌, ◌<◌, ◌==◌, nat_le, Bool, false, not, ◌||◌, ◌&&◌, List, [], ◌∷◌, ◌++◌, length, slice_index, take, Some, None, if◌then◌else◌}
use Rattle.std.specs.List.{AllByRecursion, list_any}
use Rattle.kernel_model.specs.Effects.{Write, written, put}
use Rattle.kernel_model.specs.Items.{FinishRecord, entry_of}
use Rattle.kernel_model.specs.OpenTasks.{children, others_than}
use Rattle.kernel_model.specs.Fit.{IsWrite, InObjectOrder}
use Rattle.set_model.specs.Sets.{TaskSet}
use Rattle.set_model.specs.Numbers.{sizes_of}
use Rattle.device_model.specs.Words.{Words, Change, made, words_from, written_at}
use Rattle.device_model.specs.Layouts.{Layout, copy_place, slot_place}
use Rattle.device_model.specs.IndexWords.{Index, IsIndex, index_word}
use Rattle.device_model.specs.Decoding.{Held}
use Rattle.device_model.specs.Keeping.{KeepsIn}

-- the objects that a finish writes, and the index after it, with the new slot of each of these
pub record Commit : Type 0 where
  pub writes : List Write
  pub after : Index

-- the index after a finish, with these slots
abbrev pub index_after : Index → FinishRecord → List ℕ → Index
index_after x i slots = record {
  clock = max i.point x.clock;
  number = x.number + 1;
  next = x.next + length i.run.spawns;
  last = Some (entry_of i);
  slots = slots;
  tasks = others_than i.task x.tasks ++ children i.first i.run.spawns;
}

-- the commit of a finish, where its objects go to these slots
abbrev pub commit_of : Held → FinishRecord → List ℕ → Commit
commit_of h i slots = record { writes = i.run.writes; after = index_after h.index i slots }

-- the writes of n objects from number o on, by whether each is written and by its words
abbrev pub writes_by : (ℕ → Bool) → (ℕ → List ℕ) → (o n : ℕ) → List Write
writes_by is_written words o zero = []
writes_by is_written words o (suc n) =
    if is_written o
    then record { object = o; words = words o } ∷ writes_by is_written words (o + 1) n
    else writes_by is_written words (o + 1) n

-- whether a page holds the slot word of an object that is written
abbrev pub names_slot : Layout → List Write → ℕ → Bool
names_slot l writes page = list_any (λ w. (9 + w.object) / l.page_words == page) writes

-- whether one of n words differs, of those from number low on
abbrev pub differs : ℕ → Words → Words → ℕ → ℕ → Bool
differs low v w i zero = false
differs low v w i (suc n) = (nat_le low i && not (v i == w i)) || differs low v w (i + 1) n

-- whether a page is written: page 0 always is, and each that holds the slot word of a written object, or a record word that differs
abbrev pub is_changed : Layout → TaskSet → Index → Commit → ℕ → Bool
is_changed l set before c page =
    (page == 0)
    || (names_slot l c.writes page
    || differs (9 + length set.objects) (index_word before) (index_word c.after)
    (page * l.page_words) l.page_words)

-- the words of each written object, to its new slot
abbrev pub object_changes : Layout → TaskSet → List ℕ → List Write → List Change
object_changes l set slots [] = []
object_changes l set slots (w ∷ ws) =
    written_at (slot_place l set w.object (slice_index slots w.object)) w.words
    ++ object_changes l set slots ws

-- all words of a page, to the copy that is not current
abbrev pub page_change : Layout → (root : ℕ) → Index → ℕ → List Change
page_change l root x page =
    written_at (copy_place l page (1 - l.copy root page) 0)
    (words_from (index_word x) (page * l.page_words) l.page_words)

-- the changed ones of n pages
abbrev pub page_changes : Layout → (root : ℕ) → Index → (ℕ → Bool) → ℕ → ℕ → List Change
page_changes l root x changed page zero = []
page_changes l root x changed page (suc n) =
    (if changed page then page_change l root x page else [])
    ++ page_changes l root x changed (page + 1) n

-- how many of n pages are changed
abbrev pub count_changed : (ℕ → Bool) → ℕ → ℕ → ℕ
count_changed changed page zero = 0
count_changed changed page (suc n) =
    (if changed page then 1 else 0) + count_changed changed (page + 1) n

-- how many words are written to objects
abbrev pub words_written : List Write → ℕ
words_written [] = 0
words_written (w ∷ ws) = length w.words + words_written ws

-- how many of these words come before those of an object
abbrev pub words_before_object : ℕ → List Write → ℕ
words_before_object o [] = 0
words_before_object o (w ∷ ws) =
    if w.object == o then 0 else length w.words + words_before_object o ws

-- all but the last write
abbrev pub commit_body : Layout → TaskSet → Held → Commit → List Change
commit_body l set h c =
    object_changes l set c.after.slots c.writes
    ++ page_changes l h.root c.after (is_changed l set h.index c) 0 l.pages

-- the root after a commit
abbrev pub next_root : Layout → TaskSet → Held → Commit → ℕ
next_root l set h c = l.flipped (is_changed l set h.index c) h.root

-- the writes of a commit: the root comes last
unfoldable pub commit_writes : Layout → TaskSet → Held → Commit → List Change
commit_writes l set h c = commit_body l set h c ++ (l.root, next_root l set h c) ∷ []

-- how many these are
abbrev pub commit_turns : Layout → TaskSet → Held → Commit → ℕ
commit_turns l set h c =
    words_written c.writes + count_changed (is_changed l set h.index c) 0 l.pages * l.page_words + 1

-- the state after a commit
abbrev pub committed : Layout → TaskSet → Held → Commit → Held
committed l set h c = record {
  index = c.after;
  objects = put c.writes h.objects;
  boots = h.boots;
  root = next_root l set h c;
}

-- a commit that may follow: what is written goes to another slot than the one that is named, and the slots of all else stay
pub record IsNext (set : TaskSet) (h : Held) (c : Commit) : Type 0 where
  pub index : IsIndex set c.after
  pub in_order : InObjectOrder c.writes
  pub writes : AllByRecursion (IsWrite (sizes_of set)) c.writes
  pub other_slot : (o : ℕ) (words : List ℕ) → written c.writes o ≡ Some words
      → slice_index c.after.slots o ≢ slice_index h.index.slots o
  pub same_slot : (o : ℕ) → o < length set.objects → written c.writes o ≡ None
      → slice_index c.after.slots o ≡ slice_index h.index.slots o

-- some writes of a commit are made, to words that kept the state before
pub record IsUnderWay (set : TaskSet) (l : Layout) (h : Held) (c : Commit) (count : ℕ)
    (words : Words) : Type 0 where
  pub next : IsNext set h c
  pub first : Words
  pub kept : KeepsIn set l h first
  pub made_are : words ≡ made (take count (commit_writes l set h c)) first

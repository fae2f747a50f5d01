-- A commit on a device, and what a writer has left of it. This project's own.
use Rattle.std.specs.Prelude.{◌≡◌, ℕ, ◌+◌, ◌-◌, ◌*◌, ◌<◌, Bool, true, List, [], ◌∷◌, ◌++◌, drop, get_or, length, map, slice_index}
use Rattle.std.specs.List.{flat_map}
use Rattle.nv_base.specs.declared.ids.ObjId.{ObjId}
use Rattle.kernel_model.specs.Effects.{Write}
use Rattle.set_model.specs.Sets.{object_at}
use Rattle.set_model.specs.Limits.{IsTaskSet}
use Rattle.device_model.specs.Words.{Change}
use Rattle.device_model.specs.Layouts.{copy_place, index_reads, slot_place}
use Rattle.device_model.specs.IndexWords.{index_word}
use Rattle.device_model.specs.Decoding.{Held}
use Rattle.device_model.specs.Commits.{Commit, IsNext, next_root, object_changes, page_change}
use Rattle.device_model.specs.Devices.{Device, IsHeldOn, commit_on, committed_on, layout_on}
use Rattle.shadow_index.specs.Tells.{IsLayoutOf}
use Rattle.commit_writer.specs.declared.job.Job.{Job}
use Rattle.commit_writer.specs.declared.position.Position as own
use Rattle.commit_writer.specs.declared.position.Position.TheVariants.{Object, Page, Root, Done}

-- a commit of a device, from a state that it holds
pub record Course : Type 0 where
  pub device : Device
  pub held : Held
  pub commit : Commit

-- its writes
abbrev pub writes_of : Course → List Change
writes_of g = commit_on g.device g.held g.commit

-- the root after it
abbrev pub root_after : Course → ℕ
root_after g = next_root (layout_on g.device) g.device.set g.held g.commit

-- the state after it
abbrev pub held_after : Course → Held
held_after g = committed_on g.device g.held g.commit

-- an object, where there is none
abbrev pub no_object : ObjId
no_object = record { 0 = 0 }

-- the words of some objects, to their new slots
abbrev pub object_writes : Course → (ℕ → List ℕ) → List ObjId → List Change
object_writes g words objects =
    object_changes (layout_on g.device) g.device.set g.commit.after.slots
    (map (λ (o : ObjId). let w : Write = record { object = o.0; words = words o.0 } in w) objects)

-- the words of some pages, to the copies that are not current
abbrev pub page_writes : Course → List ℕ → List Change
page_writes g pages =
    flat_map (page_change (layout_on g.device) g.held.root g.commit.after) pages

-- the write that is left after all others
abbrev pub root_writes : Course → List Change
root_writes g = ((layout_on g.device).root, root_after g) ∷ []

-- the writes that are left at a position
abbrev pub left : Course → (ℕ → List ℕ) → Job → own.Position → List Change
left g words job (Object nth word) =
    drop word (object_writes g words (drop nth job.objects.items))
    ++ (page_writes g job.pages.items ++ root_writes g)
left g words job (Page nth word) =
    drop word (page_writes g (drop nth job.pages.items)) ++ root_writes g
left g words job Root = root_writes g
left g words job Done = []

-- the place and the word of a word of an object
abbrev pub object_write : Course → (ℕ → List ℕ) → (object word : ℕ) → Change
object_write g words o word = (
  slot_place (layout_on g.device) g.device.set o (slice_index g.commit.after.slots o) + word,
  slice_index (words o) word,
)

-- the place and the word of a word of a page
abbrev pub page_write : Course → (page word : ℕ) → Change
page_write g page word =
    let l = layout_on g.device in (
      copy_place l page (1 - l.copy g.held.root page) 0 + word,
      index_word g.commit.after (page * l.page_words + word),
    )

-- the first of the writes that are left
abbrev pub first_left : Course → (ℕ → List ℕ) → Job → own.Position → Change
first_left g words job (Object nth word) =
    object_write g words (get_or job.objects.items nth no_object).0 word
first_left g words job (Page nth word) = page_write g (get_or job.pages.items nth 0) word
first_left g words job Root = ((layout_on g.device).root, root_after g)
first_left g words job Done = (0, 0)

-- a write is left at a position
abbrev pub IsPosition : Course → (ℕ → List ℕ) → Job → own.Position → Type 0
IsPosition g words job (Object nth word) =
    (nth < length job.objects.items)
    × (word < length (words (get_or job.objects.items nth no_object).0))
IsPosition g words job (Page nth word) =
    (nth < length job.pages.items) × (word < (layout_on g.device).page_words)
IsPosition g words job Root = Unit {0}
IsPosition g words job Done = ⊥

-- no write is left, or one is left there
abbrev pub IsLeftFrom : Course → (ℕ → List ℕ) → Job → own.Position → Type 0
IsLeftFrom g words job Done = Unit {0}
IsLeftFrom g words job (Object nth word) = IsPosition g words job (Object nth word)
IsLeftFrom g words job (Page nth word) = IsPosition g words job (Page nth word)
IsLeftFrom g words job Root = Unit {0}

-- at the next position one write less is left
pub record IsNextPosition (g : Course) (words : ℕ → List ℕ) (job : Job)
    (old new : own.Position) : Type 0 where
  pub left : left g words job old ≡ first_left g words job old ∷ left g words job new
  pub at : IsLeftFrom g words job new

-- the copies write an object of the set, with as many words as its size, and its slot is that of the commit
pub record IsCopied (g : Course) (is_written : ℕ → Bool) (words : ℕ → List ℕ) (slots : List ℕ)
    (o : ℕ) : Type 0 where
  pub object : o < length g.device.set.objects
  pub written : is_written o ≡ true
  pub size : length (words o) ≡ (object_at g.device.set o).size
  pub slot : slice_index slots o ≡ slice_index g.commit.after.slots o

-- the tables are those of a commit, for copies that write these words
pub record IsBegun (g : Course) (is_written : ℕ → Bool) (words : ℕ → List ℕ)
    (job : Job) : Type 0 where
  pub limits : IsTaskSet g.device.set
  pub held : IsHeldOn g.device g.held
  pub next : IsNext g.device.set g.held g.commit
  pub places : IsLayoutOf g.device job.layout
  pub root : job.root ≡ g.held.root
  pub next_root : job.next_root ≡ root_after g
  pub objects : (k : ℕ) → k < length job.objects.items
      → IsCopied g is_written words job.slots (get_or job.objects.items k no_object).0
  pub some_page : 0 < length job.pages.items
  pub pages : (k : ℕ) → k < length job.pages.items
      → get_or job.pages.items k 0 < (layout_on g.device).pages
  pub long : length job.words.items ≡ index_reads (layout_on g.device)
  pub index : (i : ℕ) → i < index_reads (layout_on g.device)
      → slice_index job.words.items i ≡ index_word g.commit.after i

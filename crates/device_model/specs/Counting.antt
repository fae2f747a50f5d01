-- The numbers that the kernel's model needs of a set on a device: a commit writes the pages of the index that it changes, by the open tasks before and after it. This project's own.
use Rattle.std.specs.Prelude.{ℕ, ◌+◌, ◌-◌, ◌*◌, ◌==◌, Bool, ◌||◌, List, length, slice_index}
use Rattle.kernel_model.specs.Sizes.{Sizes}
use Rattle.kernel_model.specs.Effects.{Write}
use Rattle.kernel_model.specs.Replay.{TaskRec}
use Rattle.set_model.specs.Sets.{TaskSet, object_at}
use Rattle.device_model.specs.Words.{Words}
use Rattle.device_model.specs.Layouts.{Layout, boot_turns_of}
use Rattle.device_model.specs.IndexWords.{task_words}
use Rattle.device_model.specs.Commits.{count_changed, differs, names_slot}

-- index word i, which is one of the records of these open tasks
abbrev pub record_word : TaskSet → List TaskRec → Words
record_word set tasks i = slice_index (task_words tasks) (i - (9 + length set.objects))

-- whether a commit with these open tasks before and after it, and these writes, writes a page
abbrev pub is_page_written : Layout → TaskSet → (before after : List TaskRec) → List Write → ℕ
    → Bool
is_page_written l set before after ws page =
    (page == 0)
    || (names_slot l ws page
    || differs (9 + length set.objects) (record_word set before) (record_word set after)
    (page * l.page_words) l.page_words)

-- how many words it writes beside the objects' words: those pages, and the root
abbrev pub index_writes_on : Layout → TaskSet → (before after : List TaskRec) → List Write → ℕ
index_writes_on l set before after ws =
    count_changed (is_page_written l set before after ws) 0 l.pages * l.page_words + 1

-- the numbers of a set on a device
abbrev pub sizes_on : Layout → TaskSet → Sizes
sizes_on l set = record {
  objects = length set.objects;
  size = λ o. (object_at set o).size;
  slots = λ o. (object_at set o).slots;
  programs = length set.programs;
  records = set.records;
  index_writes = index_writes_on l set;
  boot_turns = boot_turns_of l;
}

-- The numbers that the kernel's model needs of a task set: places on the device are counted, not named. This project's own.
use Rattle.std.specs.Prelude.{ℕ, ◌+◌, ◌*◌, length, sum_by}
use Rattle.kernel_model.specs.Sizes.{Sizes}
use Rattle.set_model.specs.Sets.{TaskSet, object_at}

-- the words of an index: clock, number, next id, the five of the last finish, the number of open tasks, a slot for each object, three words for each record
abbrev pub index_words : TaskSet → ℕ
index_words set = 9 + length set.objects + 3 * set.records

-- where the first index copy begins: behind the header, the directory and the code
abbrev pub first_index : TaskSet → ℕ
first_index set = 7 + length set.objects + 2 * length set.programs + sum_by (λ p. length p.code) set.programs

-- one word each turn: all up to the first index copy, the current copy, and at last the boots word
abbrev pub boot_turns : TaskSet → ℕ
boot_turns set = first_index set + index_words set + 1

-- how many words a device must have: two index copies, and the slots of each object
abbrev pub words_needed : TaskSet → ℕ
words_needed set = first_index set + 2 * index_words set + sum_by (λ o. o.size * o.slots) set.objects

-- The index writes and boot turns are those of format 1's index: those of each kind of device are counted by its layout.
abbrev pub sizes_of : TaskSet → Sizes
sizes_of set = record {
  objects = length set.objects;
  size = λ o. (object_at set o).size;
  slots = λ o. (object_at set o).slots;
  programs = length set.programs;
  records = set.records;
  index_writes = λ before after writes. index_words set + 1;
  boot_turns = boot_turns set;
}

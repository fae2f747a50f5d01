-- Worked devices, computed. This project's own.
use Rattle.std.specs.Prelude.{◌≡◌, ℕ, ◌+◌, List, [], ◌∷◌, ◌++◌, length, codes, map, replicate, take, Some}
use Rattle.std.specs.List.{range_with_len}
use Rattle.kernel_model.specs.Effects.{Exit, Run, Spawn, Write}
use Rattle.kernel_model.specs.Turns as turns
use Rattle.set_model.specs.Sets.{ObjPart, TaskSet}
use Rattle.set_model.specs.Formatted.{formatted}
use Rattle.set_model.specs.Numbers.{index_words, first_index}
use Rattle.device_model.specs.Words.{Words, Change, made}
use Rattle.device_model.specs.Layouts.{Kind, Layout, Plain, Paged, Migrated, layout_of, boot_turns_of, need}
use Rattle.device_model.specs.Decoding.{Stored, Blank, Damaged, Holds, Held, decode}
use Rattle.device_model.specs.Formats.{format_writes, formatted_held}
use Rattle.device_model.specs.Commits.{Commit, commit_writes, committed}
use Rattle.device_model.specs.Counting.{sizes_on}
use Rattle.device_model.specs.Migrations.{migration_writes, moved_held}
use Rattle.device_model.specs.Journals.{booted, boot_writes}

-- an object of one word
abbrev pub word_object : ObjPart
word_object = record { name = codes "x"; size = 1; slots = 2; first = 5 ∷ [] }

-- one object, one program of twelve words, one task
abbrev pub adding : TaskSet
adding = record {
  format = 1;
  cores = 1;
  memory = 1024;
  records = 1;
  objects = word_object ∷ [];
  programs = record { name = codes "add"; fuel = 100; code = replicate 12 115 } ∷ [];
  tasks = record { program = 0; arg = 7 } ∷ [];
}

-- the same in format 2
abbrev pub adding_2 : TaskSet
adding_2 = record adding { format = 2 }

-- many objects and records
abbrev pub greatest : TaskSet
greatest = record adding_2 {
  records = 1024;
  objects = replicate 128 word_object;
}

-- its task finishes at point 1, and writes 12 to x
abbrev pub finish : Commit
finish = record {
  writes = record { object = 0; words = 12 ∷ [] } ∷ [];
  after = record {
    clock = 1;
    number = 1;
    next = 2;
    last = Some (record { number = 1; task = 1; point = 1; first = 2; outcome = Exit 0 });
    slots = 1 ∷ [];
    tasks = [];
  };
}

-- a device that holds no state
abbrev pub no_words : Words
no_words place = 7

-- how many writes the kernel's model counts for a finish of a task as the first one, by the numbers of a set on a device
abbrev pub counted : Layout → TaskSet → (task : ℕ) → List Write → List Spawn → ℕ
counted l set task writes spawns =
    let run : Run = record { outcome = Exit 0; reads = []; writes = writes; spawns = spawns } in
    let first = length set.tasks + 1 in
    turns.commit_writes (sizes_on l set) (formatted set) []
    (record { number = 1; task = task; point = 1; first = first; run = run })

-- its formatted state, and the words of it
abbrev pub at_first : Kind → Held
at_first kind = formatted_held (layout_of kind adding) adding

abbrev pub first_words : Kind → Words
first_words kind = made (format_writes (layout_of kind adding) adding) no_words

-- that state, migrated
abbrev pub moved_first : Held
moved_first = moved_held adding (at_first Plain)

-- what the images of some writes decode to, from the first write on
abbrev pub images_from : TaskSet → List Change → Words → ℕ → ℕ → List Stored
images_from set log words k n =
    map (λ i. decode set (made (take i log) words)) (range_with_len k n)

abbrev pub PlainNumbers : Type 0
PlainNumbers =
    (index_words adding ≡ 13) × (first_index adding ≡ 22)
    × (need (layout_of Plain adding) adding ≡ 50) × (boot_turns_of (layout_of Plain adding) ≡ 36)
    × (length (format_writes (layout_of Plain adding) adding) ≡ 51)
    × (length (commit_writes (layout_of Plain adding) adding (at_first Plain) finish) ≡ 15)

abbrev pub PagedNumbers : Type 0
PagedNumbers =
    ((layout_of Paged adding).page_words ≡ 32) × ((layout_of Paged adding).pages ≡ 1)
    × (need (layout_of Paged adding) adding ≡ 89) × (boot_turns_of (layout_of Paged adding) ≡ 56)
    × (length (format_writes (layout_of Paged adding) adding) ≡ 90)
    × (length (commit_writes (layout_of Paged adding) adding (at_first Paged) finish) ≡ 34)

abbrev pub MigratedNumbers : Type 0
MigratedNumbers =
    (need (layout_of Migrated adding) adding ≡ 117)
    × (boot_turns_of (layout_of Migrated adding) ≡ 56)
    × (length (migration_writes adding (at_first Plain)) ≡ 68)
    × (length (commit_writes (layout_of Migrated adding) adding moved_first finish) ≡ 34)

-- these are what the kernel's model counts
abbrev pub CountedNumbers : Type 0
CountedNumbers =
    (counted (layout_of Plain adding) adding 1 finish.writes [] ≡ 15)
    × (counted (layout_of Paged adding) adding 1 finish.writes [] ≡ 34)
    × (counted (layout_of Migrated adding) adding 1 finish.writes [] ≡ 34)

abbrev pub GreatestNumbers : Type 0
GreatestNumbers =
    (index_words greatest ≡ 3209) × ((layout_of Paged greatest).page_words ≡ 128)
    × ((layout_of Paged greatest).pages ≡ 26)

-- inside a format nothing stands there, and then the first state
abbrev pub FormatImages : Type 0
FormatImages =
    (images_from adding (format_writes (layout_of Plain adding) adding) no_words 1 51
    ≡ replicate 50 Blank ++ Holds Plain (at_first Plain) ∷ [])
    × (images_from adding_2 (format_writes (layout_of Paged adding) adding) no_words 1 90
    ≡ replicate 89 Blank ++ Holds Paged (at_first Paged) ∷ [])

-- a commit is the state before it, until its last write
abbrev pub CommitImages : Type 0
CommitImages =
    (images_from adding (commit_writes (layout_of Plain adding) adding (at_first Plain) finish)
    (first_words Plain) 0 16
    ≡ replicate 15 (Holds Plain (at_first Plain))
    ++ Holds Plain (committed (layout_of Plain adding) adding (at_first Plain) finish) ∷ [])
    × (images_from adding_2 (commit_writes (layout_of Paged adding) adding (at_first Paged) finish)
    (first_words Paged) 0 35
    ≡ replicate 34 (Holds Paged (at_first Paged))
    ++ Holds Paged (committed (layout_of Paged adding) adding (at_first Paged) finish) ∷ [])
    × ((committed (layout_of Plain adding) adding (at_first Plain) finish).objects ≡ (12 ∷ []) ∷ [])
    × ((committed (layout_of Plain adding) adding (at_first Plain) finish).root ≡ 2)
    × ((committed (layout_of Paged adding) adding (at_first Paged) finish).root ≡ 0x80000001)

-- a migration is the state of format 1, until its last write
abbrev pub MigrationImages : Type 0
MigrationImages =
    images_from adding_2 (migration_writes adding (at_first Plain)) (first_words Plain) 0 69
    ≡ replicate 68 (Holds Plain (at_first Plain))
    ++ Holds Migrated moved_first ∷ []

-- a boot counts
abbrev pub BootImage : Type 0
BootImage =
    decode adding (made (boot_writes (at_first Plain)) (first_words Plain))
    ≡ Holds Plain (booted (at_first Plain))

-- a word in place of another, and what is damaged then
abbrev pub damaged_at : TaskSet → (place word : ℕ) → Words → Stored
damaged_at set place word words = decode set (made ((place, word) ∷ []) words)

abbrev pub Damages : Type 0
Damages =
    (damaged_at adding 0 0 (first_words Plain) ≡ Blank)
    × (damaged_at adding 0 1 (first_words Plain) ≡ Damaged 0)
    × (damaged_at adding 1 0 (first_words Plain) ≡ Damaged 1)
    × (damaged_at adding 1 2 (first_words Plain) ≡ Damaged 37)
    × (damaged_at adding 3 2 (first_words Plain) ≡ Damaged 3)
    × (damaged_at adding 21 0 (first_words Plain) ≡ Damaged 21)
    × (damaged_at adding 22 1 (first_words Plain) ≡ Damaged 23)
    × (damaged_at adding 30 2 (first_words Plain) ≡ Damaged 30)
    × (damaged_at adding 31 2 (first_words Plain) ≡ Damaged 31)
    × (damaged_at adding 32 0 (first_words Plain) ≡ Damaged 32)
    × (damaged_at adding 33 1 (first_words Plain) ≡ Damaged 33)
    × (damaged_at adding_2 22 0x80000002 (first_words Paged) ≡ Damaged 22)
    × (damaged_at adding_2 22 1 (first_words Paged) ≡ Damaged 22)
    × (damaged_at adding_2 22 0x80000001 (first_words Paged) ≡ Damaged 57)
    × (damaged_at adding_2 36 1 (first_words Paged) ≡ Damaged 36)
    × (damaged_at adding 0 0x324B564E (first_words Plain) ≡ Damaged 0)

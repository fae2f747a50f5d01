-- A worked device of several pages, computed. This project's own.
use Rattle.std.specs.Prelude.{◌≡◌, ℕ, ◌+◌, List, [], ◌∷◌, ◌++◌, length, codes, replicate, take, Some}
use Rattle.kernel_model.specs.Effects.{Exit, Spawn}
use Rattle.kernel_model.specs.OpenTasks.{children}
use Rattle.set_model.specs.Sets.{ObjPart, TaskSet}
use Rattle.set_model.specs.Numbers.{index_words, first_index}
use Rattle.device_model.specs.Words.{Words, made}
use Rattle.device_model.specs.Layouts.{Plain, Paged, layout_of, boot_turns_of, need}
use Rattle.device_model.specs.Decoding.{Stored, Holds, Held, decode}
use Rattle.device_model.specs.Formats.{format_writes, formatted_held}
use Rattle.device_model.specs.Commits.{Commit, commit_writes, committed}
use Rattle.device_model.specs.Journals.{Act, Commits, Cuts, Boots, booted, journal}
use Rattle.device_model.specs.Worked.{adding, at_first, counted, finish, first_words, images_from, no_words}

-- a task of the one program
abbrev pub spawn : Spawn
spawn = record { program = 0; arg = 3 }

-- an object of two words, and one of three slots
abbrev pub first_object : ObjPart
first_object = record { name = codes "x"; size = 2; slots = 2; first = 5 ∷ 6 ∷ [] }

abbrev pub second_object : ObjPart
second_object = record { name = codes "y"; size = 1; slots = 3; first = 7 ∷ [] }

-- two objects, 20 records, 12 tasks
abbrev pub branching : TaskSet
branching = record {
  format = 2;
  cores = 1;
  memory = 1024;
  records = 20;
  objects = first_object ∷ second_object ∷ [];
  programs = record { name = codes "fork"; fuel = 100; code = 115 ∷ [] } ∷ [];
  tasks = replicate 12 spawn;
}

-- its formatted state, and the words of it
abbrev pub branching_held : Held
branching_held = formatted_held (layout_of Paged branching) branching

abbrev pub branching_words : Words
branching_words = made (format_writes (layout_of Paged branching) branching) no_words

-- its first task finishes and leaves a gap that all later records move into
abbrev pub first_task : Commit
first_task = record {
  writes = record { object = 1; words = 9 ∷ [] } ∷ [];
  after = record {
    clock = 1;
    number = 1;
    next = 13;
    last = Some (record { number = 1; task = 1; point = 1; first = 13; outcome = Exit 0 });
    slots = 0 ∷ 2 ∷ [];
    tasks = children 2 (replicate 11 spawn);
  };
}

-- its last task finishes: record 11 is cleared
abbrev pub last_task : Commit
last_task = record {
  writes = record { object = 0; words = 1 ∷ 2 ∷ [] } ∷ [];
  after = record {
    clock = 1;
    number = 1;
    next = 13;
    last = Some (record { number = 1; task = 12; point = 1; first = 13; outcome = Exit 0 });
    slots = 1 ∷ 0 ∷ [];
    tasks = children 1 (replicate 11 spawn);
  };
}

-- its last task finishes, with eight children
abbrev pub last_forks : Commit
last_forks = record {
  writes = [];
  after = record {
    clock = 0;
    number = 1;
    next = 21;
    last = Some (record { number = 1; task = 12; point = 0; first = 13; outcome = Exit 0 });
    slots = 0 ∷ 0 ∷ [];
    tasks = children 1 (replicate 11 spawn) ++ children 13 (replicate 8 spawn);
  };
}

-- how many writes a commit has, and the root after it
abbrev pub turns_and_root : Commit → ℕ × ℕ
turns_and_root c = (
  length (commit_writes (layout_of Paged branching) branching branching_held c),
  (committed (layout_of Paged branching) branching branching_held c).root,
)

abbrev pub BranchingNumbers : Type 0
BranchingNumbers =
    (index_words branching ≡ 71) × (first_index branching ≡ 12)
    × ((layout_of Paged branching).page_words ≡ 32) × ((layout_of Paged branching).pages ≡ 3)
    × (need (layout_of Paged branching) branching ≡ 212)
    × (boot_turns_of (layout_of Paged branching) ≡ 110)
    × (turns_and_root first_task ≡ (1 + 64 + 1, 0x80000003))
    × (turns_and_root last_task ≡ (2 + 64 + 1, 0x80000003))
    × (turns_and_root last_forks ≡ (96 + 1, 0x80000007))

-- these are what the kernel's model counts
abbrev pub CountedPages : Type 0
CountedPages =
    (counted (layout_of Paged branching) branching 1 first_task.writes [] ≡ 66)
    × (counted (layout_of Paged branching) branching 12 last_task.writes [] ≡ 67)
    × (counted (layout_of Paged branching) branching 12 [] (replicate 8 spawn) ≡ 97)

-- after so many writes of a commit
abbrev pub branching_image : Commit → ℕ → Stored
branching_image c k =
    let log = commit_writes (layout_of Paged branching) branching branching_held c in
    decode branching (made (take k log) branching_words)

abbrev pub BranchingImages : Type 0
BranchingImages =
    (branching_image last_task 0 ≡ Holds Paged branching_held)
    × (branching_image last_task 34 ≡ Holds Paged branching_held)
    × (branching_image last_task 66 ≡ Holds Paged branching_held)
    × (branching_image last_task 67
    ≡ Holds Paged (committed (layout_of Paged branching) branching branching_held last_task))
    × ((committed (layout_of Paged branching) branching branching_held last_task).objects
    ≡ (1 ∷ 2 ∷ []) ∷ (7 ∷ []) ∷ [])
    × (branching_image last_forks 96 ≡ Holds Paged branching_held)
    × (branching_image last_forks 97
    ≡ Holds Paged (committed (layout_of Paged branching) branching branching_held last_forks))

-- a boot, a commit that is cut after 14 of its 15 writes, a boot, and a commit: each image
abbrev pub acts : List Act
acts = Boots ∷ Cuts finish 14 ∷ Boots ∷ Commits finish ∷ []

abbrev pub JournalImages : Type 0
JournalImages =
    images_from adding (journal (layout_of Plain adding) adding (at_first Plain) acts)
    (first_words Plain) 0 32
    ≡ Holds Plain (at_first Plain) ∷ replicate 15 (Holds Plain (booted (at_first Plain)))
    ++ replicate 15 (Holds Plain (booted (booted (at_first Plain))))
    ++ Holds Plain
    (committed (layout_of Plain adding) adding (booted (booted (at_first Plain))) finish)
    ∷ []

-- Worked tables on each kind of device, computed. This project's own.
use Rattle.std.specs.Prelude.{◌≡◌, ℕ, ◌+◌, [], ◌∷◌, ◌++◌, length, Some, None}
use Rattle.kernel_model.specs.Effects.{Exit}
use Rattle.kernel_model.specs.Turns.{Start, Finish, Failed, Booted}
use Rattle.kernel_model.specs.Events.{Boot, Fail}
use Rattle.kernel_model.specs.WorkedTasks.{Task, Scene, shows, steps, entry, task}
use Rattle.kernel_model.specs.WorkedRuns.{adding, forking}
use Rattle.device_model.specs.Layouts.{Kind, Plain, Paged, Migrated}
use Rattle.table_machine.specs.Tables.{Vacant, Tables, sizes_in}
use Rattle.table_machine.specs.Events.{no_index, one_version}
use Rattle.table_machine.specs.Worked.{Stage, first_tables_of, first_index_of, goes, object, one, prints, set_with, setting_of, stands_in}

-- one task on one core, which adds 7 to one object
abbrev pub adding_on : Kind → Stage
adding_on kind = record { kind = kind; scene = adding; set = one }

-- the formatted device: task 1 is open, and the object has one version, which stands in slot 0
abbrev pub Formatted : Kind → Type 0
Formatted kind =
    let x = adding_on kind in
    ((first_tables_of x).index ≡ record { clock = 0; number = 0; next = 2; last = None; slots = 0 ∷ []; tasks = task 1 0 7 ∷ [] })
    × ((first_tables_of x).chains ≡ one_version 0 0 ∷ [])
    × ((first_tables_of x).seats ≡ Vacant ∷ [])
    × (stands_in x [] ≡ Some ((5 ∷ []) ∷ []))

-- the first two writes of the commit: the object's word goes to slot 1, the clock to the other copy of the index. No table has changed
abbrev pub TwoWritesOn : Kind → (slot copy : ℕ) → Type 0
TwoWritesOn kind slot copy =
    let x = adding_on kind in
    ((goes x (steps 0 17)).log ≡ (slot, 12) ∷ (copy, 1) ∷ [])
    × ((goes x (steps 0 17)).tables.index ≡ first_index_of x)
    × ((goes x (steps 0 17)).tables.chains ≡ one_version 0 0 ∷ [])
    × (stands_in x (steps 0 17) ≡ Some ((5 ∷ []) ∷ []))

-- the commit of a page: 34 writes, of which the last is durable, and then the finish joins
abbrev pub PageCommit : Kind → Type 0
PageCommit kind =
    let x = adding_on kind in
    (prints x (steps 0 50) ≡ Start 0 1 0 ∷ Finish (entry 1 1 1 (Exit 0) 2) ∷ [])
    × (length (goes x (steps 0 50)).log ≡ 34)
    × (stands_in x (steps 0 48) ≡ Some ((5 ∷ []) ∷ []))
    × (stands_in x (steps 0 49) ≡ Some ((12 ∷ []) ∷ []))
    × ((goes x (steps 0 50)).tables.root ≡ 0x80000001)

-- a boot has so many turns left: the tables are blank
abbrev pub booting : (left : ℕ) → Tables Task
booting left = record { power = Boot left; boots = 0; owed = None; entries = []; seats = Vacant ∷ []; index = no_index; root = 0; chains = [] }

-- power fails after five writes of the commit; the boot has read ten words, and then all
abbrev pub Booting : Kind → (turns : ℕ) → Type 0
Booting kind turns =
    let x = adding_on kind in
    ((goes x (steps 0 20 ++ Fail ∷ [])).tables ≡ booting (10 + turns))
    × ((goes x (steps 0 20 ++ Fail ∷ steps 0 10)).tables ≡ booting turns)
    × ((goes x (steps 0 20 ++ Fail ∷ steps 0 (10 + turns))).tables ≡ record (first_tables_of x) { boots = 1 })

-- power fails after the last write: the boot finds the finish, in slot 1
abbrev pub FoundInPage : Kind → Type 0
FoundInPage kind =
    let x = adding_on kind in
    (prints x (steps 0 49 ++ Fail ∷ steps 0 56) ≡ Start 0 1 0 ∷ Failed ∷ Booted (Some (entry 1 1 1 (Exit 0) 2)) 1 ∷ [])
    × (stands_in x (steps 0 49 ++ Fail ∷ steps 0 56) ≡ Some ((12 ∷ []) ∷ []))
    × ((goes x (steps 0 49 ++ Fail ∷ steps 0 56)).tables.chains ≡ one_version 1 1 ∷ [])

-- twelve open tasks and room for 20, in three pages, where the first task spawns so many
abbrev pub twelve_tasks : (spawns : ℕ) → Stage
twelve_tasks spawns = record {
  kind = Paged;
  scene = forking 20 1 (task 1 0 spawns ∷ task 2 0 0 ∷ task 3 0 0 ∷ task 4 0 0 ∷ task 5 0 0 ∷ task 6 0 0 ∷ task 7 0 0 ∷ task 8 0 0 ∷ task 9 0 0 ∷ task 10 0 0 ∷ task 11 0 0 ∷ task 12 0 0 ∷ []);
  set = set_with 16 0 20 (object 1 2 (0 ∷ []) ∷ []);
}

-- the same run, by the event machine over the numbers of this set on this device
abbrev pub numbered : Stage → Scene
numbered x = record x.scene { sizes = sizes_in (setting_of x) }

-- a commit writes the pages that it changes: two where all later records move up, and the third where new ones reach it. The event machine counts as many turns
abbrev pub ChangedPages : Type 0
ChangedPages =
    (length (goes (twelve_tasks 0) (steps 0 73)).log ≡ 65)
    × (prints (twelve_tasks 0) (steps 0 73) ≡ Start 0 1 0 ∷ Finish (entry 1 1 0 (Exit 0) 13) ∷ [])
    × (shows (numbered (twelve_tasks 0)) (steps 0 73) ≡ Start 0 1 0 ∷ Finish (entry 1 1 0 (Exit 0) 13) ∷ [])
    × (length (goes (twelve_tasks 8) (steps 0 161)).log ≡ 97)
    × (prints (twelve_tasks 8) (steps 0 161) ≡ Start 0 1 0 ∷ Finish (entry 1 1 0 (Exit 0) 13) ∷ [])
    × (shows (numbered (twelve_tasks 8)) (steps 0 161) ≡ Start 0 1 0 ∷ Finish (entry 1 1 0 (Exit 0) 13) ∷ [])

-- on a device of format 1, of format 2, and on one that was migrated: object x in slot 1 and the clock go to these places
abbrev pub FormattedKinds : Type 0
FormattedKinds = Formatted Plain × Formatted Paged × Formatted Migrated

abbrev pub TwoWritesMade : Type 0
TwoWritesMade = TwoWritesOn Plain 49 35 × TwoWritesOn Paged 88 55 × TwoWritesOn Migrated 116 83

abbrev pub PageCommits : Type 0
PageCommits = PageCommit Paged × PageCommit Migrated

abbrev pub BootingKinds : Type 0
BootingKinds = Booting Plain 26 × Booting Paged 46 × Booting Migrated 46

abbrev pub FoundInPages : Type 0
FoundInPages = FoundInPage Paged × FoundInPage Migrated

-- Worked tables, computed: the worked runs of the event machine, once more by tables and device words. This project's own.
use Rattle.std.specs.Prelude.{◌≡◌, ℕ, List, [], ◌∷◌, ◌++◌, codes, length, replicate, Option, Some, None}
use Rattle.kernel_model.specs.Effects.{Objects, Exit}
use Rattle.kernel_model.specs.Turns.{Line, Start, Stale, RefuseEmpty, RefuseSlots, RefuseRecords, Finish, Failed, Booted}
use Rattle.kernel_model.specs.Events.{Power, On, Boot, Event, Fail}
use Rattle.kernel_model.specs.WorkedTasks.{Scene, Task, machine_of, shown, steps, entry, task}
use Rattle.kernel_model.specs.WorkedRuns.{adding, copy_and_put, skewing, putting, summing, no_slot, doomed, forking, resumed}
use Rattle.set_model.specs.Sets.{TaskSet, ObjPart}
use Rattle.device_model.specs.Words.{Words, made}
use Rattle.device_model.specs.Layouts.{Kind, Plain, Paged, Migrated, Layout, layout_of}
use Rattle.device_model.specs.IndexWords.{Index}
use Rattle.device_model.specs.Decoding.{Stored, Blank, Damaged, Holds, decode}
use Rattle.device_model.specs.Formats.{first_slots, fresh_word}
use Rattle.table_machine.specs.Tables.{Vacant, Setting, Tables}
use Rattle.table_machine.specs.Events.{no_index, reopened, one_version, Course, course}

-- objects with so many slots, programs with so many words in all, and so many records
abbrev pub object : ℕ → ℕ → List ℕ → ObjPart
object size slots first = record { name = codes "x"; size = size; slots = slots; first = first }

abbrev pub set_with : (code programs records : ℕ) → List ObjPart → TaskSet
set_with code programs records objects = record {
  format = 1;
  cores = 1;
  memory = 1024;
  records = records;
  objects = objects;
  programs = record { name = codes "p"; fuel = 100; code = replicate code 115 } ∷ replicate programs (record { name = codes "p"; fuel = 100; code = [] });
  tasks = [];
}

-- the set of one object, and that of two
abbrev pub one : TaskSet
one = set_with 12 0 1 (object 1 2 (5 ∷ []) ∷ [])

abbrev pub two : TaskSet
two = set_with 42 3 4 (object 1 2 (5 ∷ []) ∷ object 1 2 (8 ∷ []) ∷ [])

-- a scene of the event machine, with its set, on a kind of device
pub record Stage : Type 0 where
  pub kind : Kind
  pub scene : Scene
  pub set : TaskSet

-- the format of the sets that lie on a kind of device
abbrev pub format_of : Kind → ℕ
format_of Plain = 1
format_of Paged = 2
format_of Migrated = 2

abbrev pub set_on : Stage → TaskSet
set_on x = record x.set { format = format_of x.kind }

abbrev pub layout_on : Stage → Layout
layout_on x = layout_of x.kind (set_on x)

abbrev pub setting_of : Stage → Setting Task
setting_of x = record { steps = machine_of x.scene; set = set_on x; layout = layout_on x }

-- the base of a scene, in slot 0 of each object
abbrev pub first_index_of : Stage → Index
first_index_of x = let base = x.scene.base in record { clock = base.clock; number = base.number; next = base.next; last = None; slots = first_slots (set_on x); tasks = base.tasks }

abbrev pub first_words_of : Stage → Words
first_words_of x = fresh_word (layout_on x) (set_on x) (first_index_of x) x.scene.base.objects

abbrev pub first_on : Stage → Power → Tables Task
first_on x On = let index = first_index_of x in record { power = On; boots = x.scene.boots; owed = None; entries = []; seats = replicate x.scene.cores Vacant; index = index; root = (layout_on x).first_root; chains = reopened (set_on x) index }
first_on x (Boot left) = record { power = Boot left; boots = x.scene.boots; owed = None; entries = []; seats = replicate x.scene.cores Vacant; index = no_index; root = 0; chains = [] }

abbrev pub first_tables_of : Stage → Tables Task
first_tables_of x = first_on x x.scene.power

-- the course of some events
abbrev pub goes : Stage → List Event → Course Task
goes x events = course (setting_of x) (first_words_of x) (first_tables_of x) events

-- the lines that tables print
abbrev pub prints : Stage → List Event → List Line
prints x events = shown (goes x events).lines

-- the objects that stand on a device, if it holds a state
abbrev pub objects_in : Stored → Option Objects
objects_in Blank = None
objects_in (Damaged place) = None
objects_in (Holds kind h) = Some h.objects

abbrev pub stands_in : Stage → List Event → Option Objects
stands_in x events = objects_in (decode (set_on x) (made (goes x events).log (first_words_of x)))

-- one task on one core: 15 writes, and the object in its other slot
abbrev pub Smallest : Type 0
Smallest =
    let x : Stage = record { kind = Plain; scene = adding; set = one } in
    (prints x (steps 0 31) ≡ Start 0 1 0 ∷ Finish (entry 1 1 1 (Exit 0) 2) ∷ [])
    × (length (goes x (steps 0 31)).log ≡ 15)
    × (stands_in x (steps 0 30) ≡ Some ((12 ∷ []) ∷ []))
    × ((goes x (steps 0 31)).tables.chains ≡ record { bound = 1; places = record { slot = 1; begin = 1; end = None } ∷ record { slot = 0; begin = 0; end = Some 1 } ∷ [] } ∷ [])
    × ((goes x (steps 0 31)).tables.root ≡ 2)

-- failures before and after the last write of a commit, and in a boot
abbrev pub Failures : Type 0
Failures =
    let x : Stage = record { kind = Plain; scene = adding; set = one } in
    (prints x (steps 0 20 ++ Fail ∷ steps 0 67) ≡ Start 0 1 0 ∷ Failed ∷ Booted None 1 ∷ Start 0 1 0 ∷ Finish (entry 1 1 1 (Exit 0) 2) ∷ [])
    × (prints x (steps 0 30 ++ Fail ∷ steps 0 10 ++ Fail ∷ steps 0 36) ≡ Start 0 1 0 ∷ Failed ∷ Failed ∷ Booted (Some (entry 1 1 1 (Exit 0) 2)) 1 ∷ [])
    × (stands_in x (steps 0 30 ++ Fail ∷ steps 0 36) ≡ Some ((12 ∷ []) ∷ []))
    × ((goes x (steps 0 30 ++ Fail ∷ steps 0 36)).tables.chains ≡ one_version 1 1 ∷ [])
    × ((goes x (steps 0 30 ++ Fail ∷ steps 0 10)).tables.chains ≡ [])

-- several cores: an order by points, write skew, blind writers of which one waits, an older version
abbrev pub SeveralCores : Type 0
SeveralCores =
    (prints (record { kind = Plain; scene = copy_and_put; set = two }) (steps 0 7 ++ steps 1 36 ++ steps 0 35) ≡ Start 0 1 0 ∷ Start 1 2 0 ∷ Finish (entry 1 2 1 (Exit 0) 3) ∷ Finish (entry 2 1 0 (Exit 1) 3) ∷ [])
    × (prints (record { kind = Plain; scene = skewing; set = two }) (steps 0 7 ++ steps 1 7 ++ steps 0 35 ++ steps 1 51)
    ≡ Start 0 1 0 ∷ Start 1 2 0 ∷ Finish (entry 1 1 1 (Exit 1) 3) ∷ RefuseEmpty 1 2 1 1 ∷ Start 1 2 1 ∷ Finish (entry 2 2 2 (Exit 0) 3) ∷ [])
    × (prints (record { kind = Plain; scene = putting; set = two }) (steps 0 9 ++ steps 1 9 ++ steps 0 1 ++ steps 1 5 ++ steps 0 26 ++ steps 1 27) ≡ Start 0 1 0 ∷ Start 1 2 0 ∷ Finish (entry 1 1 1 (Exit 0) 3) ∷ Finish (entry 2 2 2 (Exit 0) 3) ∷ [])
    × (prints (record { kind = Plain; scene = summing []; set = two }) (steps 0 6 ++ steps 1 38 ++ steps 0 35) ≡ Start 0 1 0 ∷ Start 1 2 0 ∷ Finish (entry 1 2 1 (Exit 1) 3) ∷ Finish (entry 2 1 0 (Exit 13) 3) ∷ [])

-- no slot, a doomed copy that keeps its slot, no records
abbrev pub RefusedForRoom : Type 0
RefusedForRoom =
    (prints (record { kind = Plain; scene = no_slot; set = two }) (steps 0 6 ++ steps 1 48 ++ steps 0 35 ++ steps 1 36)
    ≡ Start 0 1 0 ∷ Start 1 2 0 ∷ Finish (entry 1 2 1 (Exit 1) 4) ∷ Start 1 3 1 ∷ RefuseSlots 1 3 1 ∷ Finish (entry 2 1 0 (Exit 13) 4) ∷ Start 1 3 1 ∷ Finish (entry 3 3 2 (Exit 1) 4) ∷ [])
    × (stands_in (record { kind = Plain; scene = no_slot; set = two }) (steps 0 6 ++ steps 1 48 ++ steps 0 35 ++ steps 1 36) ≡ Some ((100 ∷ []) ∷ (4 ∷ []) ∷ []))
    × (prints (record { kind = Plain; scene = doomed 3; set = set_with 42 3 4 (object 2 3 (5 ∷ 6 ∷ []) ∷ object 1 2 (8 ∷ []) ∷ []) }) (steps 0 6 ++ steps 1 7 ++ steps 2 36 ++ steps 1 36 ++ steps 2 37 ++ steps 0 46)
    ≡ Start 0 1 0 ∷ Start 1 2 0 ∷ Start 2 3 0 ∷ Finish (entry 1 3 1 (Exit 1) 5) ∷ Finish (entry 2 2 0 (Exit 0) 5) ∷ Start 2 4 1 ∷ Finish (entry 3 4 2 (Exit 0) 5) ∷ Stale 0 1 0 0 ∷ Start 0 1 2 ∷ Finish (entry 4 1 2 (Exit 7) 5) ∷ [])
    × (prints (record { kind = Plain; scene = doomed 2; set = set_with 42 3 4 (object 2 2 (5 ∷ 6 ∷ []) ∷ object 1 2 (8 ∷ []) ∷ []) }) (steps 0 6 ++ steps 1 7 ++ steps 2 36 ++ steps 1 36 ++ steps 2 10)
    ≡ Start 0 1 0 ∷ Start 1 2 0 ∷ Start 2 3 0 ∷ Finish (entry 1 3 1 (Exit 1) 5) ∷ Finish (entry 2 2 0 (Exit 0) 5) ∷ Start 2 4 1 ∷ RefuseSlots 2 4 0 ∷ [])
    × (prints (record { kind = Plain; scene = forking 2 2 (task 1 0 2 ∷ task 2 0 0 ∷ []); set = set_with 16 0 2 (object 1 2 (0 ∷ []) ∷ []) }) (steps 0 41 ++ steps 1 25 ++ steps 0 19)
    ≡ Start 0 1 0 ∷ RefuseRecords 0 1 2 2 ∷ Start 0 1 0 ∷ Start 1 2 0 ∷ Finish (entry 1 2 0 (Exit 0) 3) ∷ Finish (entry 2 1 0 (Exit 0) 3) ∷ [])

-- a failure with two cores, after the last write of one; and a run that begins in a boot
abbrev pub FailuresOnTwoCores : Type 0
FailuresOnTwoCores =
    (prints (record { kind = Plain; scene = copy_and_put; set = two }) (steps 0 7 ++ steps 1 35 ++ Fail ∷ steps 0 125)
    ≡ Start 0 1 0 ∷ Start 1 2 0 ∷ Failed ∷ Booted (Some (entry 1 2 1 (Exit 0) 3)) 1 ∷ Start 0 1 1 ∷ Finish (entry 2 1 2 (Exit 1) 3) ∷ [])
    × (stands_in (record { kind = Plain; scene = copy_and_put; set = two }) (steps 0 7 ++ steps 1 35 ++ Fail ∷ steps 0 125) ≡ Some ((9 ∷ []) ∷ (10 ∷ []) ∷ []))
    × (prints (record { kind = Plain; scene = resumed; set = one }) (steps 0 67) ≡ Booted None 1 ∷ Start 0 1 0 ∷ Finish (entry 1 1 1 (Exit 0) 2) ∷ [])

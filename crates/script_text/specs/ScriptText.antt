-- A task set as a script: its lines in their order, one space between words, numbers in decimal, all first values
-- written, programs as assembler text, and no schedule. This project's own.
use Rattle.std.specs.Prelude.{ℕ, List, [], ◌++◌, codes}
use Rattle.std.specs.List.{flat_map}
use Rattle.kernel_model.specs.Effects.{Spawn}
use Rattle.set_model.specs.Sets.{ObjPart, ProgPart, TaskSet, program_at}
use Rattle.rv_isa.specs.Texts.{text_of}
use Rattle.script.specs.Parts.{Script}
use Rattle.nv_base.specs.Texts.{field}

-- a line of a word and a number
abbrev pub number_text : List ℕ → ℕ → List ℕ
number_text word n = field word n ++ codes "\n"

-- `object NAME SIZE SLOTS VALUE ..`
abbrev pub object_text : ObjPart → List ℕ
object_text o = codes "object " ++ o.name ++ field (codes " ") o.size ++ field (codes " ") o.slots ++ flat_map (field (codes " ")) o.first ++ codes "\n"

-- a word of code as its instruction
abbrev pub code_text : ℕ → List ℕ
code_text word = text_of word ++ codes "\n"

-- `program NAME FUEL`, the instructions, and `end`
abbrev pub program_text : ProgPart → List ℕ
program_text p = codes "program " ++ p.name ++ field (codes " ") p.fuel ++ codes "\n" ++ flat_map code_text p.code ++ codes "end\n"

-- `task NAME ARG`, with the program's name
abbrev pub task_text : TaskSet → Spawn → List ℕ
task_text set t = codes "task " ++ (program_at set t.program).name ++ field (codes " ") t.arg ++ codes "\n"

-- the whole text
unfoldable pub script_text : TaskSet → List ℕ
script_text set =
    number_text (codes "nvk ") set.format ++ number_text (codes "cores ") set.cores ++ number_text (codes "memory ") set.memory ++ number_text (codes "records ") set.records ++
    flat_map object_text set.objects ++ flat_map program_text set.programs ++ flat_map (task_text set) set.tasks ++ codes "run\n"

-- a set as a script without a schedule, whose `cores` line is the second
abbrev pub unscheduled : TaskSet → Script
unscheduled set = record { set = set; schedule = record { cores = set.cores; items = []; on_times = [] }; cores_line = 2 }

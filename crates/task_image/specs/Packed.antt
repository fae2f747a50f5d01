-- The packed spelling of a task set, field by field: numbers are little-endian. This project's own.
use Rattle.std.specs.Prelude.{ℕ, List, ◌++◌, length, codes}
use Rattle.std.specs.List.{flat_map}
use Rattle.byteorder.specs.Endian.{little_bytes}
use Rattle.kernel_model.specs.Effects.{Spawn}
use Rattle.set_model.specs.Sets.{ObjPart, ProgPart, TaskSet}

-- name length, name, size, slots, first values
unfoldable pub packed_object : ObjPart → List ℕ
packed_object o =
    little_bytes 1 (length o.name)
    ++ o.name
    ++ little_bytes 1 o.size
    ++ little_bytes 1 o.slots
    ++ flat_map (little_bytes 4) o.first

-- name length, name, fuel, number of words, words
unfoldable pub packed_program : ProgPart → List ℕ
packed_program p =
    little_bytes 1 (length p.name)
    ++ p.name
    ++ little_bytes 4 p.fuel
    ++ little_bytes 2 (length p.code)
    ++ flat_map (little_bytes 4) p.code

-- program, argument
unfoldable pub packed_task : Spawn → List ℕ
packed_task t =
    little_bytes 1 t.program
    ++ little_bytes 4 t.arg

-- magic and format; cores, objects, programs and a zero; tasks; memory; records and a zero
unfoldable pub packed_header : TaskSet → List ℕ
packed_header set =
    codes "NVKS"
    ++ little_bytes 2 set.format
    ++ little_bytes 1 set.cores
    ++ little_bytes 1 (length set.objects)
    ++ little_bytes 1 (length set.programs)
    ++ little_bytes 1 0
    ++ little_bytes 2 (length set.tasks)
    ++ little_bytes 4 set.memory
    ++ little_bytes 2 set.records
    ++ little_bytes 2 0

unfoldable pub packed : TaskSet → List ℕ
packed set =
    packed_header set
    ++ flat_map packed_object set.objects
    ++ flat_map packed_program set.programs
    ++ flat_map packed_task set.tasks

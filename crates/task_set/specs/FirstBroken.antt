-- Which limit of a task set is broken first, in the order of the table of limits. This project's own.
use Rattle.std.specs.Prelude.{◌*◌, ◌%◌, ◌==◌, ◌&&◌, not, nat_lt, nat_le, Bool, Option, Some, None, if◌then◌else◌, length}
use Rattle.std.specs.Int.{is_in_range}
use Rattle.std.specs.List.{list_all}
use Rattle.nv_base.specs.declared.limits.TheConstants.{MAX_CODE, MAX_CORES, MAX_FORMAT, MAX_FUEL, MAX_MEMORY, MAX_PROGRAMS, MAX_SIZE, MAX_SLOTS, MIN_MEMORY, MIN_SLOTS}
use Rattle.set_model.specs.Sets.{TaskSet}
use Rattle.set_model.specs.Limits.{max_objects, max_records}
use Rattle.task_set.specs.declared.refusals.LimitKind.{LimitKind}
use Rattle.task_set.specs.declared.refusals.LimitKind.TheVariants.{Format, Cores, Memory, Records, Objects, Size, Slots, First, Programs, Fuel, Code, Tasks, TaskProgram}

unfoldable pub format_holds : TaskSet → Bool
format_holds set = is_in_range 1 MAX_FORMAT set.format

unfoldable pub cores_hold : TaskSet → Bool
cores_hold set = is_in_range 1 MAX_CORES set.cores

unfoldable pub memory_holds : TaskSet → Bool
memory_holds set = is_in_range MIN_MEMORY MAX_MEMORY set.memory && set.memory % 4 == 0

unfoldable pub records_hold : TaskSet → Bool
records_hold set = is_in_range 1 (max_records set.format) set.records

unfoldable pub objects_hold : TaskSet → Bool
objects_hold set = is_in_range 1 (max_objects set.format) (length set.objects)

unfoldable pub sizes_hold : TaskSet → Bool
sizes_hold set = list_all (λ o. is_in_range 1 MAX_SIZE o.size) set.objects

unfoldable pub slots_hold : TaskSet → Bool
slots_hold set = list_all (λ o. is_in_range MIN_SLOTS MAX_SLOTS o.slots) set.objects

-- as many words are given as the object has
unfoldable pub firsts_hold : TaskSet → Bool
firsts_hold set = list_all (λ o. length o.first == o.size) set.objects

unfoldable pub programs_hold : TaskSet → Bool
programs_hold set = is_in_range 1 MAX_PROGRAMS (length set.programs)

unfoldable pub fuels_hold : TaskSet → Bool
fuels_hold set = list_all (λ p. is_in_range 1 MAX_FUEL p.fuel) set.programs

-- not too many words, of 4 bytes each, that fit the private memory
unfoldable pub codes_hold : TaskSet → Bool
codes_hold set = list_all (λ p. nat_le (length p.code) MAX_CODE && nat_le (4 * length p.code) set.memory) set.programs

unfoldable pub tasks_hold : TaskSet → Bool
tasks_hold set = nat_le (length set.tasks) set.records

unfoldable pub task_programs_hold : TaskSet → Bool
task_programs_hold set = list_all (λ t. nat_lt t.program (length set.programs)) set.tasks

unfoldable pub first_broken : TaskSet → Option LimitKind
first_broken set =
    if not (format_holds set) then Some Format
    else if not (cores_hold set) then Some Cores
    else if not (memory_holds set) then Some Memory
    else if not (records_hold set) then Some Records
    else if not (objects_hold set) then Some Objects
    else if not (sizes_hold set) then Some Size
    else if not (slots_hold set) then Some Slots
    else if not (firsts_hold set) then Some First
    else if not (programs_hold set) then Some Programs
    else if not (fuels_hold set) then Some Fuel
    else if not (codes_hold set) then Some Code
    else if not (tasks_hold set) then Some Tasks
    else if not (task_programs_hold set) then Some TaskProgram
    else None

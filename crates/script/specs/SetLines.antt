-- The lines of the task set, by what each makes of the set so far. This project's own.
use Rattle.std.specs.Prelude.{ℕ, ◌%◌, ◌==◌, List, [], ◌∷◌, ◌++◌, length, replicate, Result, Ok, Err, if◌then◌else◌}
use Rattle.nv_base.specs.declared.limits.TheConstants.{MAX_CORES, MAX_FORMAT, MAX_MEMORY, MAX_SIZE, MAX_SLOTS, MIN_MEMORY, MIN_SLOTS}
use Rattle.set_model.specs.Limits.{max_objects, max_records}
use Rattle.set_model.specs.Sets.{TaskSet}
use Rattle.script.specs.declared.refusals.ScriptCause.{ScriptCause}
use Rattle.script.specs.declared.refusals.ScriptCause.TheVariants.{Count, Range, Many}
use Rattle.nv_base.specs.Results.{◌>>=◌}
use Rattle.script.specs.Results.{each}
use Rattle.script.specs.Words.{number, value, one, two, three, new_name, known_name}

-- `nvk F`
unfoldable pub format_after : TaskSet → List (List ℕ) → Result TaskSet ScriptCause
format_after set words = do
  word ← one words
  format ← number 1 MAX_FORMAT word
  Ok (record set { format = format })

-- `cores N`
unfoldable pub cores_after : TaskSet → List (List ℕ) → Result TaskSet ScriptCause
cores_after set words = do
  word ← one words
  cores ← number 1 MAX_CORES word
  Ok (record set { cores = cores })

-- `memory M`, a multiple of 4
unfoldable pub memory_after : TaskSet → List (List ℕ) → Result TaskSet ScriptCause
memory_after set words = do
  word ← one words
  memory ← number MIN_MEMORY MAX_MEMORY word
  if memory % 4 == 0 then Ok (record set { memory = memory }) else Err Range

-- `records R`, as many as the format allows
unfoldable pub records_after : TaskSet → List (List ℕ) → Result TaskSet ScriptCause
records_after set words = do
  word ← one words
  records ← number 1 (max_records set.format) word
  Ok (record set { records = records })

-- no values, which stand for zeros, or as many as the size
unfoldable pub first_values : ℕ → List (List ℕ) → Result (List ℕ) ScriptCause
first_values size words =
    if length words == 0 then Ok (replicate size 0)
    else if length words == size then each value words
    else Err Count

-- `object NAME SIZE SLOTS [VALUE ..]`, while there are fewer than the format allows
unfoldable pub object_after : TaskSet → List (List ℕ) → Result TaskSet ScriptCause
object_after set words = do
  word ← three words
  name ← new_name (λ o. o.name) set.objects word.0
  size ← number 1 MAX_SIZE word.1
  slots ← number MIN_SLOTS MAX_SLOTS word.2
  first ← first_values size word.3
  if length set.objects == max_objects set.format then Err Many
      else Ok (record set { objects = set.objects ++ record { name = name; size = size; slots = slots; first = first } ∷ [] })

-- `task NAME ARG`
unfoldable pub task_after : TaskSet → List (List ℕ) → Result TaskSet ScriptCause
task_after set words = do
  word ← two words
  program ← known_name (λ p. p.name) set.programs word.0
  arg ← value word.1
  if length set.tasks == set.records then Err Many
      else Ok (record set { tasks = set.tasks ++ record { program = program; arg = arg } ∷ [] })

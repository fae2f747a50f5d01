-- The limits of a task set. This project's own. Their numbers are constants of the program, each with its name.
use Rattle.std.specs.Prelude.{◌≡◌, ℕ, ◌*◌, ◌%◌, ◌^◌, ◌<◌, ◌≤◌, ◌==◌, length, if◌then◌else◌}
use Rattle.std.specs.List.{AllByRecursion}
use Rattle.kernel_model.specs.Effects.{Spawn}
use Rattle.nv_base.specs.declared.limits.TheConstants.{MAX_CODE, MAX_CORES, MAX_FORMAT, MAX_FUEL, MAX_MEMORY, MAX_OBJECTS, MAX_OBJECTS_1, MAX_PROGRAMS, MAX_RECORDS, MAX_RECORDS_1, MAX_SIZE, MAX_SLOTS, MIN_MEMORY, MIN_SLOTS}
use Rattle.set_model.specs.Sets.{ObjPart, ProgPart, TaskSet}

-- from low to high, both included
abbrev pub IsWithin : ℕ → ℕ → ℕ → Type 0
IsWithin low high n = (low ≤ n) × (n ≤ high)

-- 32 bits
abbrev pub IsWord : ℕ → Type 0
IsWord n = n < 2 ^ 32

-- the most objects of a set, by its format
abbrev pub max_objects : ℕ → ℕ
max_objects format = if format == 1 then MAX_OBJECTS_1 else MAX_OBJECTS

-- the most task records of a set, by its format
abbrev pub max_records : ℕ → ℕ
max_records format = if format == 1 then MAX_RECORDS_1 else MAX_RECORDS

pub record IsObject (o : ObjPart) : Type 0 where
  pub size : IsWithin 1 MAX_SIZE o.size
  pub slots : IsWithin MIN_SLOTS MAX_SLOTS o.slots
  pub first : length o.first ≡ o.size
  pub words : AllByRecursion IsWord o.first

pub record IsProgram (memory : ℕ) (p : ProgPart) : Type 0 where
  pub fuel : IsWithin 1 MAX_FUEL p.fuel
  pub code : length p.code ≤ MAX_CODE
  pub fits : 4 * length p.code ≤ memory
  pub words : AllByRecursion IsWord p.code

pub record IsTask (programs : ℕ) (t : Spawn) : Type 0 where
  pub program : t.program < programs
  pub arg : IsWord t.arg

-- names are left to the set's own crate: the kernel's rules do not speak of them
pub record IsTaskSet (set : TaskSet) : Type 0 where
  pub format : IsWithin 1 MAX_FORMAT set.format
  pub cores : IsWithin 1 MAX_CORES set.cores
  pub memory : IsWithin MIN_MEMORY MAX_MEMORY set.memory
  pub aligned : set.memory % 4 ≡ 0
  pub records : IsWithin 1 (max_records set.format) set.records
  pub objects : IsWithin 1 (max_objects set.format) (length set.objects)
  pub each_object : AllByRecursion IsObject set.objects
  pub programs : IsWithin 1 MAX_PROGRAMS (length set.programs)
  pub each_program : AllByRecursion (IsProgram set.memory) set.programs
  pub tasks : length set.tasks ≤ set.records
  pub each_task : AllByRecursion (IsTask (length set.programs)) set.tasks

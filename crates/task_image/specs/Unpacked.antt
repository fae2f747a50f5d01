-- What bytes are read as: the fields of a packed set with their rules, in order. This project's own.
use Rattle.std.specs.Prelude.{ℕ, ◌/◌, ◌%◌, ◌==◌, ◌&&◌, Bool, true, List, [], map, max, min, nat_lt, codes, Result, Ok, Err}
use Rattle.std.specs.Int.{is_in_range}
use Rattle.byteorder.specs.Endian.{little_bytes}
use Rattle.kernel_model.specs.Effects.{Spawn}
use Rattle.nv_base.specs.declared.limits.TheConstants.{MAX_CODE, MAX_CORES, MAX_FORMAT, MAX_FUEL, MAX_MEMORY, MAX_NAME, MAX_PROGRAMS, MAX_SIZE, MAX_SLOTS, MIN_MEMORY, MIN_SLOTS}
use Rattle.set_model.specs.Limits.{max_objects, max_records}
use Rattle.set_model.specs.Sets.{ObjPart, ProgPart, TaskSet}
use Rattle.task_image.specs.Reading.{Here, Reader, ◌>>=◌, done, number, literal, new_name, several, end}

-- words of 32 bits
abbrev pub words : ℕ → Reader (List ℕ)
words n = several n (λ _. number 4 (λ _. true)) []

-- with a name that no object before it has
unfoldable pub object : List (List ℕ) → Reader ObjPart
object taken = do
  length_of_name ← number 1 (is_in_range 1 MAX_NAME)
  name ← new_name taken length_of_name
  size ← number 1 (is_in_range 1 MAX_SIZE)
  slots ← number 1 (is_in_range MIN_SLOTS MAX_SLOTS)
  first ← words size
  done (record { name = name; size = size; slots = slots; first = first })

-- that fits so much private memory, with a name that no program before it has
unfoldable pub program : ℕ → List (List ℕ) → Reader ProgPart
program memory taken = do
  length_of_name ← number 1 (is_in_range 1 MAX_NAME)
  name ← new_name taken length_of_name
  fuel ← number 4 (is_in_range 1 MAX_FUEL)
  number_of_words ← number 2 (is_in_range 0 (min MAX_CODE (memory / 4)))
  code ← words number_of_words
  done (record { name = name; fuel = fuel; code = code })

-- of so many programs
unfoldable pub task : ℕ → Reader Spawn
task programs = do
  program ← number 1 (λ n. nat_lt n programs)
  arg ← number 4 (λ _. true)
  done (record { program = program; arg = arg })

abbrev pub is_memory : ℕ → Bool
is_memory n = is_in_range MIN_MEMORY MAX_MEMORY n && n % 4 == 0

-- the numbers before the first object
pub record Header : Type 0 where
  pub format : ℕ
  pub cores : ℕ
  pub objects : ℕ
  pub programs : ℕ
  pub tasks : ℕ
  pub memory : ℕ
  pub records : ℕ

unfoldable pub header : Reader Header
header = do
  magic ← literal (codes "NVKS")
  format ← number 2 (is_in_range 1 MAX_FORMAT)
  cores ← number 1 (is_in_range 1 MAX_CORES)
  objects ← number 1 (is_in_range 1 (max_objects format))
  programs ← number 1 (is_in_range 1 MAX_PROGRAMS)
  zero ← literal (little_bytes 1 0)
  tasks ← number 2 (is_in_range 0 (max_records format))
  memory ← number 4 is_memory
  records ← number 2 (is_in_range (max 1 tasks) (max_records format))
  zeros ← literal (little_bytes 2 0)
  done (record { format = format; cores = cores; objects = objects; programs = programs; tasks = tasks; memory = memory; records = records })

unfoldable pub task_set : Reader TaskSet
task_set = do
  h ← header
  objects ← several h.objects (λ before. object (map (λ o. o.name) before)) []
  programs ← several h.programs (λ before. program h.memory (map (λ p. p.name) before)) []
  tasks ← several h.tasks (λ _. task h.programs) []
  done (record { format = h.format; cores = h.cores; memory = h.memory; records = h.records; objects = objects; programs = programs; tasks = tasks })

-- a set, and nothing after it
unfoldable pub whole : Reader TaskSet
whole = do
  set ← task_set
  nothing ← end
  done set

abbrev pub value_of : {A : Type 0} → Result (A × Here) ℕ → Result A ℕ
value_of (Ok read) = Ok read.0
value_of (Err place) = Err place

-- the set that the whole bytes spell, or the place of the first field that is refused
unfoldable pub unpacked : List ℕ → Result TaskSet ℕ
unpacked bytes = value_of (whole (record { place = 0; left = bytes }))

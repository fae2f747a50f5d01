-- How the tasks of a set run on the RV32IM machine: its services, with their tests in order. This project's own.
use Rattle.std.specs.Prelude.{ℕ, ◌+◌, ◌-◌, nat_le, nat_lt, ◌&&◌, List, ◌++◌, length, take, drop, Option, Some, None, if◌then◌else◌}
use Rattle.rv_core.specs.Bytes.{put_words}
use Rattle.rv_core.specs.declared.services.Service.{Service}
use Rattle.rv_core.specs.declared.services.Service.TheVariants as service
use Rattle.nv_base.specs.declared.causes.TrapCause.{TrapCause}
use Rattle.nv_base.specs.declared.causes.TrapCause.TheVariants as cause
use Rattle.rv_core.specs.State.{MachineState, StepResult, Next, Calls, Traps}
use Rattle.rv_core.specs.Machine.{step_of, first_state, place_refusal, service_of, words_at, with_register}
use Rattle.kernel_model.specs.Effects.{Exit}
use Rattle.kernel_model.specs.Runs.{Step, TaskMachine, Went, Reads, Writes, Spawns, Ends}
use Rattle.kernel_model.specs.Worlds.{World}
use Rattle.set_model.specs.Sets.{TaskSet, object_at, program_at}
use Rattle.set_model.specs.Views.{trap_of}
use Rattle.set_model.specs.Numbers.{sizes_of}
use Rattle.set_model.specs.Formatted.{formatted}

-- behind the ECALL
abbrev pub past : MachineState → MachineState
past s = record s { pc = s.pc + 4 }

-- the first test of a READ or a WRITE that fails: Object, CallAlign, CallRange
abbrev pub refusal : TaskSet → MachineState → ℕ → ℕ → Option TrapCause
refusal set s o at = if nat_lt o (length set.objects) then place_refusal s at (object_at set o).size else Some cause.Object

-- the first test of a READPART or a WRITEPART that fails: Object, CallRange of the object's words, CallAlign, CallRange of memory. The sums are whole numbers, and do not wrap
abbrev pub part_refusal : TaskSet → MachineState → (object at first count : ℕ) → Option TrapCause
part_refusal set s o at first count =
    if nat_lt o (length set.objects)
    then (if nat_lt 0 count && nat_le (first + count) (object_at set o).size then place_refusal s at count else Some cause.CallRange)
    else Some cause.Object

-- the service, unless a test fails
abbrev pub unless : Option TrapCause → Step MachineState → Step MachineState
unless None step = step
unless (Some failed) step = Ends (trap_of failed)

-- READ: the words come when they are given
abbrev pub read_step : TaskSet → MachineState → ℕ → ℕ → Step MachineState
read_step set s o at = unless (refusal set s o at) (Reads s o)

-- WRITE: the words at the address become the task's write
abbrev pub write_step : TaskSet → MachineState → ℕ → ℕ → Step MachineState
write_step set s o at = unless (refusal set s o at) (Writes (past s) (record { object = o; words = words_at s.memory at (object_at set o).size }))

-- SPAWN: tests Program; the ninth is stopped by the run
abbrev pub spawn_step : TaskSet → MachineState → ℕ → ℕ → Step MachineState
spawn_step set s program arg = if nat_lt program (length set.programs) then Spawns s (record { program = program; arg = arg }) else Ends (trap_of cause.Program)

-- READPART and WRITEPART: what they make of the words comes when they are given
abbrev pub part_step : TaskSet → MachineState → (object at first count : ℕ) → Step MachineState
part_step set s o at first count = unless (part_refusal set s o at first count) (Reads s o)

-- what a step of the machine is to its task
abbrev pub served : TaskSet → StepResult → Step MachineState
served set (Next s) = Went s
served set (Traps s failed) = Ends (trap_of failed)
served set (Calls s (service.Read o at)) = read_step set s o at
served set (Calls s (service.Write o at)) = write_step set s o at
served set (Calls s (service.Spawn program arg)) = spawn_step set s program arg
served set (Calls s (service.Finish code)) = Ends (Exit code)
served set (Calls s (service.ReadPart o at first count)) = part_step set s o at first count
served set (Calls s (service.WritePart o at first count)) = part_step set s o at first count

-- so many words, from number first on
abbrev pub part_of : (first count : ℕ) → List ℕ → List ℕ
part_of first count words = take count (drop first words)

-- the words, with these in place of those from number first on
abbrev pub with_part : (first : ℕ) → (part words : List ℕ) → List ℕ
with_part first part words = take first words ++ part ++ drop (first + length part) words

-- the memory behind a service, where the task sees these words of its object: a READ and a READPART put them at the address
abbrev pub memory_given : Option Service → (memory words : List ℕ) → List ℕ
memory_given (Some (service.Read o at)) memory words = put_words memory at words
memory_given (Some (service.ReadPart o at first count)) memory words = put_words memory at (part_of first count words)
memory_given _ memory words = memory

-- after a service that waits for words, with those that the task sees, and past the ECALL
abbrev pub given_words : MachineState → List ℕ → MachineState
given_words s words = past (record s { memory = memory_given (service_of s) s.memory words })

-- the object's new words, where the task sees these: a WRITEPART takes a range of them from the address
abbrev pub rewritten_by : Option Service → (memory words : List ℕ) → Option (List ℕ)
rewritten_by (Some (service.WritePart o at first count)) memory words = Some (with_part first (words_at memory at count) words)
rewritten_by _ memory words = None

abbrev pub rewritten_words : MachineState → List ℕ → Option (List ℕ)
rewritten_words s words = rewritten_by (service_of s) s.memory words

-- after a SPAWN: its index in a0, and past the ECALL
abbrev pub given_index : MachineState → ℕ → MachineState
given_index s index = past (with_register s 10 index)

-- the machine of a set's tasks, of which the kernel's model speaks
abbrev pub task_steps : TaskSet → TaskMachine MachineState
task_steps set = record {
  load = λ p arg. first_state (program_at set p).code arg (program_at set p).fuel set.memory;
  step = λ s. served set (step_of s);
  given = given_words;
  rewrites = rewritten_words;
  spawned = given_index;
  left = λ s. s.fuel - s.count;
}

-- what stays in a run of a set from its formatted state
abbrev pub world_of : TaskSet → World MachineState
world_of set = record { steps = task_steps set; sizes = sizes_of set; base = formatted set }

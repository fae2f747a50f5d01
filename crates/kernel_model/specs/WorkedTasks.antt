-- Tasks of a few instructions, for worked runs: this project's own. Each takes as many turns as the RISC-V program that it stands for.
use Rattle.std.specs.Prelude.{ℕ, zero, suc, ◌+◌, ◌/◌, ◌%◌, nat_lt, List, [], ◌∷◌, ◌++◌, length, get_or, set, take, map, replicate, Option, Some, None, is_some, option_map, if◌then◌else◌}
use Rattle.kernel_model.specs.Sizes.{Sizes}
use Rattle.kernel_model.specs.Effects.{Outcome, Exit, Trap, Spawn, Objects}
use Rattle.kernel_model.specs.Runs.{Reads, Spawns, Writes, Step, Went, Ends, TaskMachine, fuel_cause}
use Rattle.kernel_model.specs.Items.{FinishRecord, Entry, serial_order}
use Rattle.kernel_model.specs.Replay.{TaskRec, DeviceState, tables_of, after_all}
use Rattle.kernel_model.specs.Worlds.{World}
use Rattle.kernel_model.specs.Turns.{Line, Nothing}
use Rattle.kernel_model.specs.Events.{Power, State, Event, CoreStep, opened, state_after}
use Rattle.kernel_model.specs.Durable.{durable, listed}
use Rattle.kernel_model.specs.Report.{report_lines}

-- one instruction
pub data Op : Type 0 where
  Work : Op
  Add : ℕ → Op  -- to the sum
  Take : (object : ℕ) → Op  -- reads an object, and adds its first word to the sum
  Put : (object : ℕ) → Op  -- writes the sum as its first word, and else zeros
  PutAt : (object place : ℕ) → Op  -- writes the sum as one of its words, and else those that the task sees
  Fork : Spawn → Op
  Stop : (code : ℕ) → Op
  StopSum : Op
  Spent : Op  -- one more instruction than the fuel

-- what is left of a task, and its sum
pub record Task : Type 0 where
  pub ops : List Op
  pub sum : ℕ
  pub place : Option ℕ  -- while it waits for an object's words: which of them it writes, if one

-- with another first word
abbrev pub with_first : ℕ → List ℕ → List ℕ
with_first n [] = []
with_first n (x ∷ xs) = n ∷ xs

-- one step, with the tests of its services
abbrev pub step_of : Sizes → List Op → ℕ → Step Task
step_of sizes [] sum = Ends (Exit 0)
step_of sizes (Work ∷ ops) sum = Went (record { ops = ops; sum = sum; place = None })
step_of sizes (Add n ∷ ops) sum = Went (record { ops = ops; sum = sum + n; place = None })
step_of sizes (Take o ∷ ops) sum = if nat_lt o sizes.objects then Reads (record { ops = ops; sum = sum; place = None }) o else Ends (Trap 10)
step_of sizes (Put o ∷ ops) sum = if nat_lt o sizes.objects then Writes (record { ops = ops; sum = sum; place = None }) (record { object = o; words = with_first sum (replicate (sizes.size o) 0) }) else Ends (Trap 10)
step_of sizes (PutAt o k ∷ ops) sum = if nat_lt o sizes.objects then Reads (record { ops = ops; sum = sum; place = Some k }) o else Ends (Trap 10)
step_of sizes (Fork s ∷ ops) sum = if nat_lt s.program sizes.programs then Spawns (record { ops = ops; sum = sum; place = None }) s else Ends (Trap 13)
step_of sizes (Stop code ∷ ops) sum = Ends (Exit code)
step_of sizes (StopSum ∷ ops) sum = Ends (Exit sum)
step_of sizes (Spent ∷ ops) sum = Ends (Trap fuel_cause)

-- the machine of these tasks, where each program with an argument has some instructions
abbrev pub toy : Sizes → (ℕ → ℕ → List Op) → TaskMachine Task
toy sizes program = record {
  load = λ p arg. record { ops = program p arg; sum = 0; place = None };
  step = λ m. step_of sizes m.ops m.sum;
  given = λ m words. record { ops = m.ops; sum = if is_some m.place then m.sum else m.sum + get_or words 0 0; place = None };
  rewrites = λ m words. option_map (λ k. set words k m.sum) m.place;
  spawned = λ m index. m;
  left = λ m. length m.ops;
}

-- instructions that no clause sees
abbrev pub work : ℕ → List Op
work n = replicate n Work

-- reads x, adds the argument, writes x
abbrev pub adder : ℕ → ℕ → List Op
adder p arg = work 4 ++ Take 0 ∷ Work ∷ Add arg ∷ Work ∷ Work ∷ Put 0 ∷ Work ∷ Stop 0 ∷ []

-- 0 copies one object to another and adds one, 1 puts a word, 2 sums both objects, 3 puts both
abbrev pub copier : ℕ → ℕ → List Op
copier p arg = get_or (
    (work 4 ++ Take (arg % 16) ∷ Work ∷ Work ∷ Add 1 ∷ Work ∷ Work ∷ Put (arg / 16) ∷ Work ∷ Stop (arg / 16) ∷ [])
    ∷ (Add (arg / 16) ∷ work 4 ++ Put (arg % 16) ∷ Work ∷ Stop (arg % 16) ∷ [])
    ∷ (work 3 ++ Take 0 ∷ Work ∷ Work ∷ Take 1 ∷ work 4 ++ StopSum ∷ [])
    ∷ (Add arg ∷ work 3 ++ Put 0 ∷ Work ∷ Put 1 ∷ Work ∷ Stop 1 ∷ []) ∷ []) p []

-- spawns n tasks
abbrev pub forks : ℕ → List Op
forks zero = work 3 ++ Stop 0 ∷ []
forks (suc n) = work 5 ++ Fork (record { program = 0; arg = 0 }) ∷ Work ∷ forks n

-- spawns as many as the argument says
abbrev pub forker : ℕ → ℕ → List Op
forker p arg = Work ∷ forks arg

-- writes the argument to x with so much fuel
abbrev pub writer : ℕ → ℕ → ℕ → List Op
writer fuel p arg = take fuel (Add arg ∷ work 3 ++ Put 0 ∷ Work ∷ Stop 0 ∷ []) ++ Spent ∷ []

-- writes the argument as the program's word of x
abbrev pub part_writer : ℕ → ℕ → List Op
part_writer p arg = Add arg ∷ work 5 ++ PutAt 0 p ∷ Work ∷ Stop 0 ∷ []

-- n steps of a core
abbrev pub steps : ℕ → ℕ → List Event
steps core n = replicate n (CoreStep core)

-- an open task
abbrev pub task : ℕ → ℕ → ℕ → TaskRec
task id program arg = record { id = id; program = program; arg = arg }

-- an entry
abbrev pub entry : ℕ → ℕ → ℕ → Outcome → ℕ → Entry
entry number task point outcome first = record { number = number; task = task; point = point; first = first; outcome = outcome }

-- a state
abbrev pub state : Objects → List TaskRec → ℕ → ℕ → ℕ → DeviceState
state objects tasks clock number next = record { objects = objects; tasks = tasks; clock = clock; number = number; next = next }

-- the state after a format: the tasks have the ids from 1 on
abbrev pub formatted : Objects → List TaskRec → DeviceState
formatted objects tasks = state objects tasks 0 0 (length tasks + 1)

-- the lines that print something
abbrev pub shown : List Line → List Line
shown [] = []
shown (Nothing ∷ lines) = shown lines
shown (line ∷ lines) = line ∷ shown lines

-- a run of these tasks: some cores, from some state of the power
pub record Scene : Type 0 where
  pub sizes : Sizes
  pub program : ℕ → ℕ → List Op
  pub base : DeviceState
  pub cores : ℕ
  pub power : Power
  pub boots : ℕ

-- the machine of a scene
abbrev pub machine_of : Scene → TaskMachine Task
machine_of x = toy x.sizes x.program

-- what stays in a scene
abbrev pub world_of : Scene → World Task
world_of x = record { steps = machine_of x; sizes = x.sizes; base = x.base }

-- before the first event
abbrev pub first_of : Scene → State Task
first_of x = opened x.cores x.power x.boots

-- the lines that are reported of some events
abbrev pub shows : Scene → List Event → List Line
shows x events = shown (report_lines (world_of x) (first_of x) events)

-- what is durable after some events: the state, and the boots
abbrev pub leaves : Scene → List Event → DeviceState × ℕ
leaves x events = let d = durable x.base None (state_after (world_of x) (first_of x) events) in (d.state, d.boots)

-- the finishes that are durable then
abbrev pub finishes_of : Scene → List Event → List FinishRecord
finishes_of x events = listed (state_after (world_of x) (first_of x) events)

-- the tasks of some finishes in serial order
abbrev pub order_of : List FinishRecord → List ℕ
order_of history = map (λ i. i.task) (serial_order history)

-- the objects that some finishes leave, put in serial order
abbrev pub replayed : DeviceState → List FinishRecord → Objects
replayed base history = (after_all (serial_order history) (tables_of base)).objects

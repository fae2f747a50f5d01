-- Worked runs, computed: small tasks on two objects. This project's own.
use Rattle.std.specs.Prelude.{◌≡◌, ℕ, List, [], ◌∷◌, ◌++◌}
use Rattle.kernel_model.specs.Effects.{Exit, Objects, Run}
use Rattle.kernel_model.specs.Runs.{whole_run}
use Rattle.nv_base.specs.declared.causes.TrapCause.TheVariants as cause
use Rattle.set_model.specs.Sets.{TaskSet}
use Rattle.set_model.specs.Views.{trap_of}
use Rattle.task_model.specs.TaskSteps.{task_steps}

-- mv s0, a0; li a0, 0; li a1, 512; li a7, 1; ecall (READ); lw t0, 512(zero); add t0, t0, s0; sw t0, 512(zero); li a7, 2; ecall (WRITE)
abbrev pub reads_adds_writes : List ℕ
reads_adds_writes = 0x00050413 ∷ 0x00000513 ∷ 0x20000593 ∷ 0x00100893 ∷ 0x00000073 ∷ 0x20002283 ∷ 0x008282b3 ∷ 0x20502023 ∷ 0x00200893 ∷ 0x00000073 ∷ []

-- li a0, 1; li a1, 512; li a7, 1; ecall (READ); lw t0, 512(zero); lw t1, 516(zero); add t0, t0, t1; sw t0, 520(zero); li a0, 0; li a1, 520; li a7, 2; ecall (WRITE)
abbrev pub sums_up : List ℕ
sums_up = 0x00100513 ∷ 0x20000593 ∷ 0x00100893 ∷ 0x00000073 ∷ 0x20002283 ∷ 0x20402303 ∷ 0x006282b3 ∷ 0x20502423 ∷ 0x00000513 ∷ 0x20800593 ∷ 0x00200893 ∷ 0x00000073 ∷ []

-- li a0, 0; li a1, 9; li a7, 3; ecall (SPAWN); li a0, 1; li a1, 4; ecall (SPAWN)
abbrev pub spawns_two : List ℕ
spawns_two = 0x00000513 ∷ 0x00900593 ∷ 0x00300893 ∷ 0x00000073 ∷ 0x00100513 ∷ 0x00400593 ∷ 0x00000073 ∷ []

-- li a0, 0; li a7, 3; ecall (SPAWN); li a0, 2; ecall (SPAWN)
abbrev pub asks_for_another : List ℕ
asks_for_another = 0x00000513 ∷ 0x00300893 ∷ 0x00000073 ∷ 0x00200513 ∷ 0x00000073 ∷ []

-- li a7, 3; li a0, 0; ecall (SPAWN); j -8
abbrev pub spawns_on : List ℕ
spawns_on = 0x00300893 ∷ 0x00000513 ∷ 0x00000073 ∷ 0xff9ff06f ∷ []

-- sw a0, 512(zero); li a0, 1; li a1, 512; li a2, 1; li a3, 1; li a7, 6; ecall (WRITEPART)
abbrev pub writes_part : List ℕ
writes_part = 0x20a02023 ∷ 0x00100513 ∷ 0x20000593 ∷ 0x00100613 ∷ 0x00100693 ∷ 0x00600893 ∷ 0x00000073 ∷ []

-- li a0, 1; li a1, 512; li a2, 1; li a3, 1; li a7, 5; ecall (READPART); lw a0, 512(zero)
abbrev pub reads_part : List ℕ
reads_part = 0x00100513 ∷ 0x20000593 ∷ 0x00100613 ∷ 0x00100693 ∷ 0x00500893 ∷ 0x00000073 ∷ 0x20002503 ∷ []

-- writes_part with li a2, 2
abbrev pub writes_past_end : List ℕ
writes_past_end = 0x20a02023 ∷ 0x00100513 ∷ 0x20000593 ∷ 0x00200613 ∷ 0x00100693 ∷ 0x00600893 ∷ 0x00000073 ∷ []

-- reads_part with li a2, -1; li a3, 2, which would wrap to one word from 1 on
abbrev pub reads_around : List ℕ
reads_around = 0x00100513 ∷ 0x20000593 ∷ 0xfff00613 ∷ 0x00200693 ∷ 0x00500893 ∷ 0x00000073 ∷ []

-- reads_part with li a2, 0; li a3, 0
abbrev pub reads_none : List ℕ
reads_none = 0x00100513 ∷ 0x20000593 ∷ 0x00000613 ∷ 0x00000693 ∷ 0x00500893 ∷ 0x00000073 ∷ []

-- sw a0, 512(zero); li a0, 1; li a1, 516; li a7, 2; ecall (WRITE); li a0, 1; li a1, 512; li a2, 0; li a3, 1; li a7, 6; ecall (WRITEPART)
abbrev pub writes_all_then_part : List ℕ
writes_all_then_part = 0x20a02023 ∷ 0x00100513 ∷ 0x20400593 ∷ 0x00200893 ∷ 0x00000073 ∷ 0x00100513 ∷ 0x20000593 ∷ 0x00000613 ∷ 0x00100693 ∷ 0x00600893 ∷ 0x00000073 ∷ []

-- li a7, 4; ecall (FINISH)
abbrev pub finishes : List ℕ
finishes = 0x00400893 ∷ 0x00000073 ∷ []

-- ebreak
abbrev pub breaks : List ℕ
breaks = 0x00100073 ∷ []

-- an object of one word and one of two, and two programs of the same code
abbrev pub set_of : List ℕ → TaskSet
set_of code = record {
  format = 1;
  cores = 1;
  memory = 1024;
  records = 1;
  objects = record { name = []; size = 1; slots = 2; first = 5 ∷ [] } ∷ record { name = []; size = 2; slots = 2; first = 6 ∷ 7 ∷ [] } ∷ [];
  programs = record { name = []; fuel = 100; code = code } ∷ record { name = []; fuel = 100; code = code } ∷ [];
  tasks = [];
}

-- the run of some code with the argument 7, on objects of other words than the first ones
abbrev pub run_of : List ℕ → Run
run_of code =
    let objects : Objects = (5 ∷ []) ∷ (8 ∷ 9 ∷ []) ∷ [] in
    whole_run (task_steps (set_of code)) 1 7 objects

-- the sum of the word and the argument is written
abbrev pub AddsToObject : Type 0
AddsToObject = run_of (reads_adds_writes ++ finishes) ≡ record { outcome = Exit 0; reads = 0 ∷ []; writes = record { object = 0; words = 12 ∷ [] } ∷ []; spawns = [] }

-- a trap behind the write leaves no write, but the read stays
abbrev pub TrapsAfterWrite : Type 0
TrapsAfterWrite = run_of (reads_adds_writes ++ breaks) ≡ record { outcome = trap_of cause.Break; reads = 0 ∷ []; writes = []; spawns = [] }

-- one object is read, and the sum of its words is written to the other
abbrev pub SumsUp : Type 0
SumsUp = run_of (sums_up ++ finishes) ≡ record { outcome = Exit 0; reads = 1 ∷ []; writes = record { object = 0; words = 17 ∷ [] } ∷ []; spawns = [] }

-- two tasks are asked for, and the exit code is the index of the second
abbrev pub SpawnsTwo : Type 0
SpawnsTwo =
    run_of (spawns_two ++ finishes) ≡ record { outcome = Exit 1; reads = []; writes = []; spawns = record { program = 0; arg = 9 } ∷ record { program = 1; arg = 4 } ∷ [] }

-- the set has no program 2: the trap leaves no spawn
abbrev pub AsksForAnother : Type 0
AsksForAnother = run_of asks_for_another ≡ record { outcome = trap_of cause.Program; reads = []; writes = []; spawns = [] }

-- the ninth spawn is one too many
abbrev pub SpawnsOn : Type 0
SpawnsOn = run_of spawns_on ≡ record { outcome = trap_of cause.Spawns; reads = []; writes = []; spawns = [] }

-- a part is written, with the other words as they are: the object is read, too
abbrev pub WritesPart : Type 0
WritesPart = run_of (writes_part ++ finishes) ≡ record { outcome = Exit 1; reads = 1 ∷ []; writes = record { object = 1; words = 8 ∷ 7 ∷ [] } ∷ []; spawns = [] }

-- a part is read
abbrev pub ReadsPart : Type 0
ReadsPart = run_of (reads_part ++ finishes) ≡ record { outcome = Exit 9; reads = 1 ∷ []; writes = []; spawns = [] }

-- a part that is not whole in the object, whose numbers would wrap, or of no words: the trap comes before the read
abbrev pub PartsRefused : Type 0
PartsRefused =
    let refused : Run = record { outcome = trap_of cause.CallRange; reads = []; writes = []; spawns = [] } in
    (run_of writes_past_end ≡ refused) × (run_of reads_around ≡ refused) × (run_of reads_none ≡ refused)

-- a part of the task's own last write: nothing is read from outside
abbrev pub PartOfOwnWrite : Type 0
PartOfOwnWrite = run_of (writes_all_then_part ++ finishes) ≡ record { outcome = Exit 1; reads = []; writes = record { object = 1; words = 7 ∷ 0 ∷ [] } ∷ []; spawns = [] }

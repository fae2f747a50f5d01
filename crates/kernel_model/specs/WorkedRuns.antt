-- Worked runs, computed: the lines of each, and the state that it leaves. This project's own.
use Rattle.std.specs.Prelude.{◌≡◌, ℕ, ◌+◌, ◌*◌, List, [], ◌∷◌, ◌++◌, length, get_or, Some, None}
use Rattle.kernel_model.specs.Sizes.{Sizes}
use Rattle.kernel_model.specs.Effects.{Exit, Trap, Spawn}
use Rattle.kernel_model.specs.Runs.{spawns_cause, fuel_cause}
use Rattle.kernel_model.specs.Replay.{TaskRec, max_id, with_children}
use Rattle.kernel_model.specs.Turns.{Start, Stale, RefuseEmpty, RefuseSlots, RefuseRecords, Finish, Found, Failed, Booted}
use Rattle.kernel_model.specs.Events.{On, Boot, Fail}
use Rattle.kernel_model.specs.WorkedTasks.{Op, task, adder, copier, forker, part_writer, writer, steps, entry, state, formatted, Scene, shows, leaves, finishes_of, order_of, replayed}

-- one object of one word, one program, one record
abbrev pub one_object : Sizes
one_object = record { objects = 1; size = λ o. 1; slots = λ o. 2; programs = 1; records = 1; index_writes = λ before after writes. 14; boot_turns = 36 }

-- x is 5, and task 1 adds 7 to it
abbrev pub adding : Scene
adding = record { sizes = one_object; program = adder; base = formatted ((5 ∷ []) ∷ []) (task 1 0 7 ∷ []); cores = 1; power = On; boots = 0 }

-- one task on one core
abbrev pub SmallestRun : Type 0
SmallestRun =
    (shows adding (steps 0 40) ≡ Start 0 1 0 ∷ Finish (entry 1 1 1 (Exit 0) 2) ∷ [])
    × (leaves adding (steps 0 40) ≡ (state ((12 ∷ []) ∷ []) [] 1 1 2, 0))

-- a failure before the last write: the task runs again
abbrev pub CutCommit : Type 0
CutCommit =
    (shows adding (steps 0 29 ++ Fail ∷ steps 0 67) ≡ Start 0 1 0 ∷ Failed ∷ Booted None 1 ∷ Start 0 1 0 ∷ Finish (entry 1 1 1 (Exit 0) 2) ∷ [])
    × (leaves adding (steps 0 29 ++ Fail ∷ []) ≡ (state ((5 ∷ []) ∷ []) (task 1 0 7 ∷ []) 0 0 2, 0))
    × (leaves adding (steps 0 29 ++ Fail ∷ steps 0 67) ≡ (state ((12 ∷ []) ∷ []) [] 1 1 2, 1))

-- a failure between the last write and the finish: the boot tells it, or the end of the report does
abbrev pub FoundFinish : Type 0
FoundFinish =
    (shows adding (steps 0 30 ++ Fail ∷ steps 0 36) ≡ Start 0 1 0 ∷ Failed ∷ Booted (Some (entry 1 1 1 (Exit 0) 2)) 1 ∷ [])
    × (shows adding (steps 0 30 ++ Fail ∷ steps 0 37) ≡ Start 0 1 0 ∷ Failed ∷ Booted (Some (entry 1 1 1 (Exit 0) 2)) 1 ∷ [])
    × (leaves adding (steps 0 30 ++ Fail ∷ steps 0 37) ≡ (state ((12 ∷ []) ∷ []) [] 1 1 2, 1))
    × (shows adding (steps 0 30 ++ Fail ∷ []) ≡ Start 0 1 0 ∷ Failed ∷ Found (entry 1 1 1 (Exit 0) 2) ∷ [])
    × (leaves adding (steps 0 30 ++ Fail ∷ []) ≡ (state ((12 ∷ []) ∷ []) [] 1 1 2, 0))

-- two more failures inside the boot
abbrev pub FailuresInBoot : Type 0
FailuresInBoot =
    (shows adding (steps 0 30 ++ Fail ∷ steps 0 10 ++ Fail ∷ steps 0 20 ++ Fail ∷ steps 0 36) ≡ Start 0 1 0 ∷ Failed ∷ Failed ∷ Failed ∷ Booted (Some (entry 1 1 1 (Exit 0) 2)) 1 ∷ [])
    × (leaves adding (steps 0 30 ++ Fail ∷ steps 0 10 ++ Fail ∷ steps 0 20 ++ Fail ∷ steps 0 36) ≡ (state ((12 ∷ []) ∷ []) [] 1 1 2, 1))

-- two objects of one word, four programs, four records
abbrev pub two_objects : Sizes
two_objects = record { objects = 2; size = λ o. 1; slots = λ o. 2; programs = 4; records = 4; index_writes = λ before after writes. 24; boot_turns = 83 }

-- x is 5 and y is 8, on two cores
abbrev pub copying : List TaskRec → Scene
copying tasks = record { sizes = two_objects; program = copier; base = formatted ((5 ∷ []) ∷ (8 ∷ []) ∷ []) tasks; cores = 2; power = On; boots = 0 }

-- task 1 copies x to y, task 2 puts 9 into x
abbrev pub copy_and_put : Scene
copy_and_put = copying (task 1 0 16 ∷ task 2 1 144 ∷ [])

-- the task that finishes last stands first in serial order
abbrev pub OrderedByPoint : Type 0
OrderedByPoint =
    (shows copy_and_put (steps 0 7 ++ steps 1 36 ++ steps 0 35) ≡ Start 0 1 0 ∷ Start 1 2 0 ∷ Finish (entry 1 2 1 (Exit 0) 3) ∷ Finish (entry 2 1 0 (Exit 1) 3) ∷ [])
    × (leaves copy_and_put (steps 0 7 ++ steps 1 36 ++ steps 0 35) ≡ (state ((9 ∷ []) ∷ (6 ∷ []) ∷ []) [] 1 2 3, 0))
    × (order_of (finishes_of copy_and_put (steps 0 7 ++ steps 1 36 ++ steps 0 35)) ≡ 1 ∷ 2 ∷ [])
    × (replayed copy_and_put.base (finishes_of copy_and_put (steps 0 7 ++ steps 1 36 ++ steps 0 35)) ≡ (9 ∷ []) ∷ (6 ∷ []) ∷ [])

-- each of two tasks reads what the other writes
abbrev pub skewing : Scene
skewing = copying (task 1 0 16 ∷ task 2 0 1 ∷ [])

-- write skew: the second is refused, and runs again
abbrev pub WriteSkew : Type 0
WriteSkew =
    (shows skewing (steps 0 7 ++ steps 1 7 ++ steps 0 35 ++ steps 1 51)
    ≡ Start 0 1 0 ∷ Start 1 2 0 ∷ Finish (entry 1 1 1 (Exit 1) 3) ∷ RefuseEmpty 1 2 1 1 ∷ Start 1 2 1 ∷ Finish (entry 2 2 2 (Exit 0) 3) ∷ [])
    × (leaves skewing (steps 0 7 ++ steps 1 7 ++ steps 0 35 ++ steps 1 51) ≡ (state ((7 ∷ []) ∷ (6 ∷ []) ∷ []) [] 2 2 3, 0))

-- two tasks put words into x and read nothing
abbrev pub putting : Scene
putting = copying (task 1 1 144 ∷ task 2 1 112 ∷ [])

-- two blind writers: both finish, also where one waits for the other's commit
abbrev pub BlindWriters : Type 0
BlindWriters =
    (shows putting (steps 0 9 ++ steps 1 9 ++ steps 0 27 ++ steps 1 27) ≡ Start 0 1 0 ∷ Start 1 2 0 ∷ Finish (entry 1 1 1 (Exit 0) 3) ∷ Finish (entry 2 2 2 (Exit 0) 3) ∷ [])
    × (leaves putting (steps 0 9 ++ steps 1 9 ++ steps 0 27 ++ steps 1 27) ≡ (state ((7 ∷ []) ∷ (8 ∷ []) ∷ []) [] 2 2 3, 0))
    × (shows putting (steps 0 9 ++ steps 1 9 ++ steps 0 1 ++ steps 1 5 ++ steps 0 26 ++ steps 1 27) ≡ Start 0 1 0 ∷ Start 1 2 0 ∷ Finish (entry 1 1 1 (Exit 0) 3) ∷ Finish (entry 2 2 2 (Exit 0) 3) ∷ [])

-- task 1 sums x and y, task 2 puts 100 into both, others follow
abbrev pub summing : List TaskRec → Scene
summing tasks = copying (task 1 2 0 ∷ task 2 3 100 ∷ tasks)

-- task 1 reads x before and y after task 2's finish, and is given the older y
abbrev pub OlderVersion : Type 0
OlderVersion =
    (shows (summing []) (steps 0 6 ++ steps 1 38 ++ steps 0 35) ≡ Start 0 1 0 ∷ Start 1 2 0 ∷ Finish (entry 1 2 1 (Exit 1) 3) ∷ Finish (entry 2 1 0 (Exit 13) 3) ∷ [])
    × (leaves (summing []) (steps 0 6 ++ steps 1 38 ++ steps 0 35) ≡ (state ((100 ∷ []) ∷ (100 ∷ []) ∷ []) [] 1 2 3, 0))

-- with task 3, which puts 4 into y
abbrev pub no_slot : Scene
no_slot = summing (task 3 1 65 ∷ [])

-- the older y is needed, so task 3 finds no slot until task 1 has finished
abbrev pub NoSlot : Type 0
NoSlot =
    (shows no_slot (steps 0 6 ++ steps 1 48 ++ steps 0 35 ++ steps 1 36)
    ≡ Start 0 1 0 ∷ Start 1 2 0 ∷ Finish (entry 1 2 1 (Exit 1) 4) ∷ Start 1 3 1 ∷ RefuseSlots 1 3 1 ∷ Finish (entry 2 1 0 (Exit 13) 4) ∷ Start 1 3 1 ∷ Finish (entry 3 3 2 (Exit 1) 4) ∷ [])
    × (leaves no_slot (steps 0 6 ++ steps 1 48 ++ steps 0 35 ++ steps 1 36) ≡ (state ((100 ∷ []) ∷ (4 ∷ []) ∷ []) [] 2 3 4, 0))

-- x has two words, and task 1 writes 7 as the first of them, task 2 writes 9 as the second
abbrev pub writing_parts : Scene
writing_parts = record {
  sizes = record { objects = 1; size = λ o. 2; slots = λ o. 2; programs = 2; records = 2; index_writes = λ before after writes. 17; boot_turns = 50 };
  program = part_writer;
  base = formatted ((5 ∷ 6 ∷ []) ∷ []) (task 1 0 7 ∷ task 2 1 9 ∷ []);
  cores = 2;
  power = On;
  boots = 0;
}

-- a write of a part rests on the other words: the second is refused, and runs again
abbrev pub PartsOnTwoCores : Type 0
PartsOnTwoCores =
    (shows writing_parts (steps 0 11 ++ steps 1 11 ++ steps 0 22 ++ steps 1 35)
    ≡ Start 0 1 0 ∷ Start 1 2 0 ∷ Finish (entry 1 1 1 (Exit 0) 3) ∷ RefuseEmpty 1 2 1 1 ∷ Start 1 2 1 ∷ Finish (entry 2 2 2 (Exit 0) 3) ∷ [])
    × (leaves writing_parts (steps 0 11 ++ steps 1 11 ++ steps 0 22 ++ steps 1 35) ≡ (state ((7 ∷ 9 ∷ []) ∷ []) [] 2 2 3, 0))
    × (order_of (finishes_of writing_parts (steps 0 11 ++ steps 1 11 ++ steps 0 22 ++ steps 1 35)) ≡ 1 ∷ 2 ∷ [])

-- three cores, where x has two words and n slots
abbrev pub doomed : ℕ → Scene
doomed n = record {
  sizes = record { objects = 2; size = λ o. get_or (2 ∷ 1 ∷ []) o 0; slots = λ o. get_or (n ∷ 2 ∷ []) o 0; programs = 4; records = 4; index_writes = λ before after writes. 24; boot_turns = 84 };
  program = copier;
  base = formatted ((5 ∷ 6 ∷ []) ∷ (8 ∷ []) ∷ []) (task 1 2 0 ∷ task 2 0 1 ∷ task 3 1 65 ∷ task 4 1 48 ∷ []);
  cores = 3;
  power = On;
  boots = 0;
}

-- task 1 has copied one of two words of x when two commits write x: what it copies keeps its slot, though its interval is empty
abbrev pub DoomedCopy : Type 0
DoomedCopy =
    (shows (doomed 3) (steps 0 6 ++ steps 1 7 ++ steps 2 36 ++ steps 1 36 ++ steps 2 37 ++ steps 0 46)
    ≡ Start 0 1 0 ∷ Start 1 2 0 ∷ Start 2 3 0 ∷ Finish (entry 1 3 1 (Exit 1) 5) ∷ Finish (entry 2 2 0 (Exit 0) 5) ∷ Start 2 4 1 ∷ Finish (entry 3 4 2 (Exit 0) 5) ∷ Stale 0 1 0 0 ∷ Start 0 1 2 ∷ Finish (entry 4 1 2 (Exit 7) 5) ∷ [])
    × (leaves (doomed 3) (steps 0 6 ++ steps 1 7 ++ steps 2 36 ++ steps 1 36 ++ steps 2 37 ++ steps 0 46) ≡ (state ((3 ∷ 0 ∷ []) ∷ (4 ∷ []) ∷ []) [] 2 4 5, 0))
    × (shows (doomed 2) (steps 0 6 ++ steps 1 7 ++ steps 2 36 ++ steps 1 36 ++ steps 2 10)
    ≡ Start 0 1 0 ∷ Start 1 2 0 ∷ Start 2 3 0 ∷ Finish (entry 1 3 1 (Exit 1) 5) ∷ Finish (entry 2 2 0 (Exit 0) 5) ∷ Start 2 4 1 ∷ RefuseSlots 2 4 0 ∷ [])

-- x is 5, and task 1 writes 7 to it by seven instructions, with so much fuel
abbrev pub writing : ℕ → Scene
writing fuel = record { sizes = one_object; program = writer fuel; base = formatted ((5 ∷ []) ∷ []) (task 1 0 7 ∷ []); cores = 1; power = On; boots = 0 }

-- as many instructions as the fuel are executed, and one more is a trap, which keeps no write
abbrev pub FuelIsSpent : Type 0
FuelIsSpent =
    (shows (writing 7) (steps 0 25) ≡ Start 0 1 0 ∷ Finish (entry 1 1 1 (Exit 0) 2) ∷ [])
    × (leaves (writing 7) (steps 0 25) ≡ (state ((7 ∷ []) ∷ []) [] 1 1 2, 0))
    × (shows (writing 6) (steps 0 25) ≡ Start 0 1 0 ∷ Finish (entry 1 1 0 (Trap fuel_cause) 2) ∷ [])
    × (leaves (writing 6) (steps 0 25) ≡ (state ((5 ∷ []) ∷ []) [] 0 1 2, 0))

-- so many records and cores
abbrev pub forking : ℕ → ℕ → List TaskRec → Scene
forking records cores tasks = record {
  sizes = record { objects = 1; size = λ o. 1; slots = λ o. 2; programs = 1; records = records; index_writes = λ before after writes. 11 + 3 * records; boot_turns = 50 };
  program = forker;
  base = formatted ((0 ∷ []) ∷ []) tasks;
  cores = cores;
  power = On;
  boots = 0;
}

-- two spawns find no records until another task has finished
abbrev pub NoRecords : Type 0
NoRecords =
    (shows (forking 2 2 (task 1 0 2 ∷ task 2 0 0 ∷ [])) (steps 0 41 ++ steps 1 25 ++ steps 0 19)
    ≡ Start 0 1 0 ∷ RefuseRecords 0 1 2 2 ∷ Start 0 1 0 ∷ Start 1 2 0 ∷ Finish (entry 1 2 0 (Exit 0) 3) ∷ Finish (entry 2 1 0 (Exit 0) 3) ∷ [])
    × (leaves (forking 2 2 (task 1 0 2 ∷ task 2 0 0 ∷ [])) (steps 0 41 ++ steps 1 25 ++ steps 0 19) ≡ (state ((0 ∷ []) ∷ []) (task 3 0 0 ∷ task 4 0 0 ∷ []) 0 2 5, 0))

-- eight spawns are the most: a ninth is a trap, which keeps no spawn
abbrev pub NinthSpawn : Type 0
NinthSpawn =
    (shows (forking 8 1 (task 1 0 8 ∷ [])) (steps 0 99) ≡ Start 0 1 0 ∷ Finish (entry 1 1 0 (Exit 0) 2) ∷ [])
    × ((leaves (forking 8 1 (task 1 0 8 ∷ [])) (steps 0 99)).0.next ≡ 10)
    × (shows (forking 8 1 (task 1 0 9 ∷ [])) (steps 0 101) ≡ Start 0 1 0 ∷ Finish (entry 1 1 0 (Trap spawns_cause) 2) ∷ [])
    × (leaves (forking 8 1 (task 1 0 9 ∷ [])) (steps 0 101) ≡ (state ((0 ∷ []) ∷ []) [] 0 1 2, 0))

-- a commit writes five words of this index for each task that is open before it, one for each after it, and three for each object written
abbrev pub counting : (ℕ → ℕ → List Op) → ℕ → Scene
counting program arg = record {
  sizes = record { objects = 1; size = λ o. 1; slots = λ o. 2; programs = 1; records = 2; index_writes = λ before after writes. 5 * length before + length after + 3 * length writes; boot_turns = 36 };
  program = program;
  base = formatted ((5 ∷ []) ∷ []) (task 1 0 arg ∷ []);
  cores = 1;
  power = On;
  boots = 0;
}

-- a task that writes an object, and one that spawns two tasks: each commit takes its own number of turns, and a step less leaves a finish that no line has told
abbrev pub CountedIndex : Type 0
CountedIndex =
    (shows (counting adder 7) (steps 0 25) ≡ Start 0 1 0 ∷ Finish (entry 1 1 1 (Exit 0) 2) ∷ [])
    × (shows (counting adder 7) (steps 0 24) ≡ Start 0 1 0 ∷ Found (entry 1 1 1 (Exit 0) 2) ∷ [])
    × (shows (counting adder 7) (steps 0 23) ≡ Start 0 1 0 ∷ [])
    × (shows (counting forker 2) (steps 0 29) ≡ Start 0 1 0 ∷ Finish (entry 1 1 0 (Exit 0) 2) ∷ [])
    × (shows (counting forker 2) (steps 0 28) ≡ Start 0 1 0 ∷ Found (entry 1 1 0 (Exit 0) 2) ∷ [])
    × (shows (counting forker 2) (steps 0 27) ≡ Start 0 1 0 ∷ [])

-- in the replay a child whose id would pass the greatest one does not join
abbrev pub CappedChild : Type 0
CappedChild =
    let children : List Spawn = record { program = 0; arg = 7 } ∷ record { program = 0; arg = 8 } ∷ [] in
    (with_children max_id children (λ id. None) max_id ≡ Some (record { program = 0; arg = 7 }))
    × (with_children max_id children (λ id. None) (max_id + 1) ≡ None)

-- one that has another open task's id does not join, either
abbrev pub TakenId : Type 0
TakenId =
    let other : Spawn = record { program = 1; arg = 0 } in
    with_children 4 (record { program = 0; arg = 7 } ∷ []) (λ id. Some other) 4 ≡ Some other

-- a failure with two cores, after the last write of one: it is found, and the other runs again
abbrev pub FailureOnTwoCores : Type 0
FailureOnTwoCores =
    (shows copy_and_put (steps 0 7 ++ steps 1 35 ++ Fail ∷ steps 0 125)
    ≡ Start 0 1 0 ∷ Start 1 2 0 ∷ Failed ∷ Booted (Some (entry 1 2 1 (Exit 0) 3)) 1 ∷ Start 0 1 1 ∷ Finish (entry 2 1 2 (Exit 1) 3) ∷ [])
    × (leaves copy_and_put (steps 0 7 ++ steps 1 35 ++ Fail ∷ steps 0 125) ≡ (state ((9 ∷ []) ∷ (10 ∷ []) ∷ []) [] 2 2 3, 1))

-- from the state that a cut commit left, in a boot
abbrev pub resumed : Scene
resumed = record { sizes = one_object; program = adder; base = state ((5 ∷ []) ∷ []) (task 1 0 7 ∷ []) 0 0 2; cores = 1; power = Boot 36; boots = 0 }

-- a run that begins in a boot
abbrev pub ResumedRun : Type 0
ResumedRun =
    (shows resumed (steps 0 67) ≡ Booted None 1 ∷ Start 0 1 0 ∷ Finish (entry 1 1 1 (Exit 0) 2) ∷ [])
    × (leaves resumed (steps 0 67) ≡ (state ((12 ∷ []) ∷ []) [] 1 1 2, 1))

-- from a clock above 0, with a task that copies x to y, and one that puts 9 into x
abbrev pub resumed_later : Scene
resumed_later = record { sizes = two_objects; program = copier; base = state ((5 ∷ []) ∷ (6 ∷ []) ∷ []) (task 3 0 16 ∷ task 5 1 144 ∷ []) 4 7 8; cores = 2; power = Boot 83; boots = 2 }

-- points, numbers and ids go on from those of the base, and a point may be the base's clock
abbrev pub ResumedLater : Type 0
ResumedLater =
    (shows resumed_later (steps 0 83 ++ steps 0 7 ++ steps 1 36 ++ steps 0 35) ≡ Booted None 3 ∷ Start 0 3 4 ∷ Start 1 5 4 ∷ Finish (entry 8 5 5 (Exit 0) 8) ∷ Finish (entry 9 3 4 (Exit 1) 8) ∷ [])
    × (leaves resumed_later (steps 0 83 ++ steps 0 7 ++ steps 1 36 ++ steps 0 35) ≡ (state ((9 ∷ []) ∷ (6 ∷ []) ∷ []) [] 5 9 8, 3))
    × (order_of (finishes_of resumed_later (steps 0 83 ++ steps 0 7 ++ steps 1 36 ++ steps 0 35)) ≡ 3 ∷ 5 ∷ [])

-- the call that goes on from the state that an earlier one left, in a boot
abbrev pub goes_on : Scene
goes_on = record { sizes = two_objects; program = copier; base = (leaves copy_and_put (steps 0 7 ++ steps 1 36)).0; cores = 2; power = Boot 83; boots = 0 }

-- two calls joined: their listings, one after the other, replay from the first base to the last state
abbrev pub JoinedCalls : Type 0
JoinedCalls =
    (goes_on.base ≡ state ((9 ∷ []) ∷ (8 ∷ []) ∷ []) (task 1 0 16 ∷ []) 1 1 3)
    × (shows goes_on (steps 0 125) ≡ Booted None 1 ∷ Start 0 1 1 ∷ Finish (entry 2 1 2 (Exit 1) 3) ∷ [])
    × (leaves goes_on (steps 0 125) ≡ (state ((9 ∷ []) ∷ (10 ∷ []) ∷ []) [] 2 2 3, 1))
    × (order_of (finishes_of goes_on (steps 0 125) ++ finishes_of copy_and_put (steps 0 7 ++ steps 1 36)) ≡ 2 ∷ 1 ∷ [])
    × (replayed copy_and_put.base (finishes_of goes_on (steps 0 125) ++ finishes_of copy_and_put (steps 0 7 ++ steps 1 36)) ≡ (9 ∷ []) ∷ (10 ∷ []) ∷ [])

-- A task set: what a script says of objects, programs and tasks. This project's own.
use Rattle.std.specs.Prelude.{ℕ, List, [], get_or}
use Rattle.kernel_model.specs.Effects.{Spawn}

-- an object's name, its size in words, how many versions it has slots for, and its words at first
pub record ObjPart : Type 0 where
  pub name : List ℕ
  pub size : ℕ
  pub slots : ℕ
  pub first : List ℕ

-- a program's name, how many instructions a run of it may count, and its code in words
pub record ProgPart : Type 0 where
  pub name : List ℕ
  pub fuel : ℕ
  pub code : List ℕ

pub record TaskSet : Type 0 where
  pub format : ℕ  -- by which the most objects and records go
  pub cores : ℕ
  pub memory : ℕ  -- private bytes of each attempt
  pub records : ℕ  -- how many tasks may be open
  pub objects : List ObjPart
  pub programs : List ProgPart
  pub tasks : List Spawn  -- open at first, under the ids 1, 2, ..

-- an object by its number
abbrev pub object_at : TaskSet → ℕ → ObjPart
object_at set o = get_or set.objects o (record { name = []; size = 0; slots = 0; first = [] })

-- a program by its number
abbrev pub program_at : TaskSet → ℕ → ProgPart
program_at set p = get_or set.programs p (record { name = []; fuel = 0; code = [] })

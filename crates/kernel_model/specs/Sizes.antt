-- The numbers of a task set and of its device: this project's own.
use Rattle.std.specs.Prelude.{ℕ, List}
use Rattle.kernel_model.specs.Effects.{Write}
use Rattle.kernel_model.specs.Replay.{TaskRec}

-- how many of each there are. Objects, programs and cores are numbered from 0
pub record Sizes : Type 0 where
  pub objects : ℕ
  pub size : ℕ → ℕ  -- of an object, in words
  pub slots : ℕ → ℕ  -- of an object: as many versions of it can be kept
  pub programs : ℕ
  pub records : ℕ  -- as many tasks can be open
  pub index_writes : (before after : List TaskRec) → List Write → ℕ  -- of a commit with these open tasks before and after it, and these writes: its device writes beside the objects' words. The last one makes it durable
  pub boot_turns : ℕ  -- the turns of a boot; the last one writes

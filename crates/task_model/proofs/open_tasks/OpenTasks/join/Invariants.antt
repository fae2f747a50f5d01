use Rattle.std.proofs.Common.{◌≡◌, ℕ, map, take}
use Rattle.kernel_model.specs.Replay.{with_children}
use Rattle.set_model.specs.Views.{spawn_of}
use Rattle.task_model.specs.Tables.{open_under}
use Rattle.task_model.proofs.open_tasks.OpenTasks.join.Given as goal

abbrev pub invariant-loop-i : goal.invariant-loop-i
invariant-loop-i l = (q : ℕ) → open_under l.self q ≡ with_children l.fn.first.0 (map spawn_of (take l.i l.spawns)) (open_under l.fn.self) q

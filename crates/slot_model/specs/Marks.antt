-- Threads' calls as cores: each caller's attempt by its mark, and a commit in place of its caller's mark. This project's own.
use Rattle.std.specs.Prelude.{ℕ, List, set, Option, Some, None}
use Rattle.kernel_model.specs.Items.{FinishRecord}
use Rattle.kernel_model.specs.Replay.{DeviceState}
use Rattle.kernel_model.specs.Intervals.{read_interval}
use Rattle.kernel_model.specs.Cores.{Core, Committing}
use Rattle.kernel_model.specs.Live.{CallState, Mark, cores_of}
use Rattle.slot_model.specs.Tabled.{View}

-- all callers, while caller n's finish has so many writes left
abbrev pub committing : CallState → (n : ℕ) → FinishRecord → (left : ℕ) → List (Core (Unit {0}))
committing s n i left = set (cores_of s.marks) n (Committing i left)

-- what is kept of a caller's attempt, if it has one
abbrev pub mark_view : DeviceState → List FinishRecord → Option Mark → Option View
mark_view base history None = None
mark_view base history (Some m) =
    Some (record { interval = read_interval base history m.start m.reads; copying = None })

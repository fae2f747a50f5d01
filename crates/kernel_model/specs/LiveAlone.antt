-- A caller at work while the others hold nothing: this project's own.
use Rattle.std.specs.Prelude.{◌≡◌, ℕ, List, Option, None, get_or}
use Rattle.kernel_model.specs.Items.{FinishRecord}
use Rattle.kernel_model.specs.Replay.{DeviceState}
use Rattle.kernel_model.specs.Intervals.{read_interval}
use Rattle.kernel_model.specs.Verdicts.{Empty, Slots}
use Rattle.kernel_model.specs.Live.{Mark, Answer, IsStale, Refused}

-- no caller but n holds a task
abbrev pub HoldsAlone : ℕ → List (Option Mark) → Type 0
HoldsAlone n marks = (k : ℕ) → (k ≡ n → ⊥) → get_or marks k None ≡ None

-- no version that the attempt read has ended
abbrev pub HasNoEnd : DeviceState → List FinishRecord → Mark → Type 0
HasNoEnd base history m = (read_interval base history m.start m.reads).hi ≡ None

-- no answer to an attempt that met others
abbrev pub IsUnmetAnswer : Answer → Type 0
IsUnmetAnswer (IsStale lo hi) = ⊥
IsUnmetAnswer (Refused (Empty lo hi)) = ⊥
IsUnmetAnswer (Refused (Slots o)) = ⊥
IsUnmetAnswer _ = Unit {0}

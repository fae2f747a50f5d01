-- What each call of the machine of calls keeps: this project's own.
use Rattle.std.specs.Prelude.{◌≡◌, ℕ, List, Option, Some, None, get_or}
use Rattle.kernel_model.specs.Effects.{Spawn, Programs}
use Rattle.kernel_model.specs.Items.{FinishRecord}
use Rattle.kernel_model.specs.Replay.{DeviceState}
use Rattle.kernel_model.specs.Live.{Mark, CallState}
use Rattle.kernel_model.specs.History.{IsHistory, IsAttempt}

-- the rest of the run of a marked attempt, which the machine of calls does not see, is that of its task
pub record IsMarked (whole : Programs) (base : DeviceState) (history : List FinishRecord) (m : Mark) : Type 0 where
  pub spawn : Spawn
  pub attempt : IsAttempt whole base history m.task m.start m.reads (λ x. whole spawn.program spawn.arg x)

-- if there is a mark
abbrev pub IsMarkedIf : Programs → DeviceState → List FinishRecord → Option Mark → Type 0
IsMarkedIf whole base history None = Unit {0}
IsMarkedIf whole base history (Some m) = IsMarked whole base history m

-- the task of a mark
abbrev pub task_of : Option Mark → Option ℕ
task_of None = None
task_of (Some m) = Some m.task

-- what each call keeps
pub record IsLiveState (whole : Programs) (base : DeviceState) (s : CallState) : Type 0 where
  pub history : IsHistory whole base s.history
  pub marks : (k : ℕ) → IsMarkedIf whole base s.history (get_or s.marks k None)
  pub one_holds : (j k t : ℕ) → task_of (get_or s.marks j None) ≡ Some t → task_of (get_or s.marks k None) ≡ Some t → j ≡ k

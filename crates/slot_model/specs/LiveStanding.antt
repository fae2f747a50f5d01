-- What must stand in the slots of each object between and within the calls of threads: this project's own.
use Rattle.std.specs.Prelude.{ℕ, ◌<◌, ◌≤◌, ◌∷◌, length}
use Rattle.kernel_model.specs.Sizes.{Sizes}
use Rattle.kernel_model.specs.Effects.{Objects, Programs}
use Rattle.kernel_model.specs.Items.{FinishRecord}
use Rattle.kernel_model.specs.Replay.{DeviceState, max_id, next_id}
use Rattle.kernel_model.specs.Live.{CallState, cores_of}
use Rattle.kernel_model.specs.LiveSound.{IsLiveState}
use Rattle.kernel_model.specs.Fit.{AreSized, IsBase, IsRun}
use Rattle.kernel_model.specs.History.{IsHistory, RestOnReads}
use Rattle.kernel_model.specs.Sound.{IsOpen}
use Rattle.slot_model.specs.Slots.{Image}
use Rattle.slot_model.specs.Kept.{Kept}
use Rattle.slot_model.specs.Marks.{committing}
use Rattle.slot_model.specs.Standing.{Stands}

-- between calls. No failure comes between them, so the clock at the last boot is that of the base
abbrev pub LiveStands : Sizes → DeviceState → CallState → Kept → Image → Type 0
LiveStands sizes base s kept image =
    Stands sizes base base.clock s.history (cores_of s.marks) kept image

-- within the finish of caller n, which was granted, while it has so many writes left
pub record LiveCommits (whole : Programs) (sizes : Sizes) (base : DeviceState) (s : CallState) (n : ℕ)
    (i : FinishRecord) (left : ℕ) (kept : Kept) (image : Image) : Type 0 where
  pub caller : n < length s.marks
  pub joins : IsHistory whole base (i ∷ s.history)
  pub was_open : IsOpen base s.history i.task
  pub stands : Stands sizes base base.clock s.history (committing s n i left) kept image

-- what must be true of the state. Each call keeps it: laws of the kernel's model
pub record IsLiveLawful (whole : Programs) (sizes : Sizes) (base : DeviceState) (s : CallState) : Type 0 where
  pub rests : RestOnReads whole
  pub fit : (program arg : ℕ) (objects : Objects) → AreSized sizes objects
      → IsRun sizes (whole program arg objects)
  pub based : IsBase sizes base
  pub live : IsLiveState whole base s
  pub ids : next_id base s.history ≤ max_id

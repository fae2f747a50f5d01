-- Which slot is free for one more version: this project's own.
use Rattle.std.specs.Prelude.{ℕ, zero, suc, ◌+◌, ◌==◌, Bool, ◌&&◌, List, Option, Some, None, unwrap_or, if◌then◌else◌}
use Rattle.std.specs.List.{list_any}
use Rattle.kernel_model.specs.Sizes.{Sizes}
use Rattle.kernel_model.specs.Items.{FinishRecord}
use Rattle.kernel_model.specs.Replay.{DeviceState}
use Rattle.kernel_model.specs.Cores.{Core}
use Rattle.kernel_model.specs.Room.{is_needed}
use Rattle.slot_model.specs.Kept.{Held, Kept, must_stand}

-- whether slot k has a version that must stand
abbrev pub is_taken : (Held → Bool) → List Held → ℕ → Bool
is_taken must chain k = list_any (λ h. h.slot == k && must h) chain

-- the least slot from k on, of so many, that is not taken
abbrev pub free_from : (k slots : ℕ) → (ℕ → Bool) → Option ℕ
free_from k zero taken = None
free_from k (suc slots) taken = if taken k then free_from (k + 1) slots taken else Some k

-- the least slot of an object that has neither the newest version nor one that the others need
abbrev pub free_slot : {M : Type 0} → Sizes → DeviceState → List FinishRecord → List (Core M) → Kept → ℕ → Option ℕ
free_slot sizes base history others kept o =
    free_from 0 (sizes.slots o)
    (is_taken (must_stand (is_needed base history o others)) (kept.chains o))

-- the slots for the versions of a finish that is granted
abbrev pub planned : {M : Type 0} → Sizes → DeviceState → List FinishRecord → List (Core M) → Kept → Kept
planned sizes base history others kept = record kept {
  plan = λ o. unwrap_or (free_slot sizes base history others kept o) 0;
}

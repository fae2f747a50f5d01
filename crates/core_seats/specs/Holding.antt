-- What a core holds, as the kernel over tables has it. This project's own.
use Rattle.std.specs.Prelude.{◌≡◌, ℕ, ◌<◌, true, false, List, [], ◌∷◌, Option, Some, None}
use Rattle.rv_core.specs.State.{MachineState}
use Rattle.nv_base.specs.declared.lines.Outcome.{Outcome}
use Rattle.kernel_model.specs.Items.{FinishRecord, entry_of}
use Rattle.set_model.specs.Views as told
use Rattle.device_model.specs.IndexWords.{Index}
use Rattle.interval.specs.Ranges.{range_of}
use Rattle.table_machine.specs.Tables.{Seat, Vacant, Runs, Copies, Waits, Saves}
use Rattle.vol_copy.specs.Tries.{IsSeat, run_in}
use Rattle.vol_copy.specs.declared.attempt.Stage.TheVariants as stage
use Rattle.core_seats.specs.declared.seat.Seat as own
use Rattle.core_seats.specs.declared.seat.Saving.{Saving}

-- the slot that a core copies from, if it copies
abbrev pub IsFromSlot : ℕ → Seat MachineState → Type 0
IsFromSlot slot Vacant = Unit {0}
IsFromSlot slot (Runs t) = Unit {0}
IsFromSlot slot (Copies t k) = k ≡ slot
IsFromSlot slot (Waits t outcome) = Unit {0}
IsFromSlot slot (Saves i after left) = Unit {0}

-- a finish of the attempt commits, with the index after it
pub record IsSaving (s : own.Seat) (v : Saving) (after : Index) (seat : Seat MachineState) : Type 0 where
  pub finish : FinishRecord
  pub left : ℕ
  pub is : seat ≡ Saves finish after left
  pub whole : v.is_whole ≡ true → left ≡ 0
  pub begun : v.is_whole ≡ false → 0 < left
  pub entry : entry_of finish ≡ told.entry_of v.entry
  pub outcome : Outcome
  pub ended : s.attempt.stage ≡ stage.Ready outcome
  pub task : v.entry.task ≡ s.attempt.task
  pub run : finish.run ≡ run_in s.attempt outcome

-- a core stands for a seat, by the finish that commits, if one does
abbrev pub StandsForBy : own.Seat → Index → Option Saving → Seat MachineState → Type 0
StandsForBy s after None seat = IsSeat s.attempt (range_of s.reads) seat × IsFromSlot s.slot seat
StandsForBy s after (Some v) seat = IsSaving s v after seat

abbrev pub StandsFor : own.Seat → Index → Seat MachineState → Type 0
StandsFor s after seat = StandsForBy s after s.saving seat

-- all cores, by their numbers
abbrev pub AreSeats : List own.Seat → Index → List (Seat MachineState) → Type 0
AreSeats [] after [] = Unit {0}
AreSeats [] after (t ∷ ts) = ⊥
AreSeats (s ∷ ss) after [] = ⊥
AreSeats (s ∷ ss) after (t ∷ ts) = StandsFor s after t × AreSeats ss after ts

-- What a failure of power leaves of a kernel. This project's own.
use Rattle.std.specs.Prelude.{List, [], ◌∷◌, ◌++◌, Option, Some, None, if◌then◌else◌}
use Rattle.std.specs.Option.{option_or}
use Rattle.rv_core.specs.State.{MachineState}
use Rattle.nv_base.specs.declared.lines.Entry.{Entry}
use Rattle.nv_base.specs.declared.lines.Line.{Line}
use Rattle.kernel_model.specs.Events.{Fail}
use Rattle.device_model.specs.Words.{Words}
use Rattle.table_machine.specs.Tables.{Tables}
use Rattle.table_machine.specs.Events.{table_step}
use Rattle.core_seats.specs.declared.seat.Saving.{Saving}
use Rattle.core_seats.specs.declared.seat.Seat.{Seat}
use Rattle.kernel_core.specs.Commits.{setting_on}
use Rattle.kernel_core.specs.Keeping.{IsLawful, Keeps}
use Rattle.kernel_core.specs.Turns.{IsAnswered}
use Rattle.kernel_core.specs.declared.kernel.Kernel.{Kernel}

-- a finish whose writes are all made
abbrev pub whole_if : Option Saving → Option Entry
whole_if None = None
whole_if (Some v) = if v.is_whole then Some v.entry else None

-- that of the first of some cores that has one
abbrev pub whole_in : List Seat → Option Entry
whole_in [] = None
whole_in (s ∷ seats) = option_or (whole_if s.saving) (whole_in seats)

-- the entries with one more, if there is one
abbrev pub with_found : Option Entry → List Entry → List Entry
with_found None entries = entries
with_found (Some e) entries = entries ++ e ∷ []

-- power fails: no word of the device changes
unfoldable pub Fails : Kernel → Kernel → Line → Type 0
Fails old new line = (words : Words) (t : Tables MachineState) → Keeps old words t → IsLawful old words t → IsAnswered new words (table_step (setting_on old.set words) words t Fail) line

-- What the types of the program are in the kernel's model. This project's own.
use Rattle.std.specs.Prelude.{Option, Some, None}
use Rattle.nv_base.specs.Causes.{cause_number}
use Rattle.nv_base.specs.declared.causes.TrapCause.{TrapCause}
use Rattle.nv_base.specs.declared.lines.Outcome as base_outcome
use Rattle.nv_base.specs.declared.lines.Outcome.TheVariants as outcome
use Rattle.nv_base.specs.declared.lines.Spawn as base_spawn
use Rattle.nv_base.specs.declared.lines.TaskRec as base_task
use Rattle.nv_base.specs.declared.lines.Entry as base_entry
use Rattle.nv_base.specs.declared.lines.Line as base_line
use Rattle.nv_base.specs.declared.lines.Line.TheVariants as line
use Rattle.kernel_model.specs.Effects.{Outcome, Exit, Trap, Spawn}
use Rattle.kernel_model.specs.Items.{Entry}
use Rattle.kernel_model.specs.Replay.{TaskRec}
use Rattle.kernel_model.specs.Turns.{Line, Nothing, Start, Stale, RefuseEmpty, RefuseSlots, RefuseRecords, Finish, Found, Failed, Booted}

-- a trap's cause by its number
abbrev pub trap_of : TrapCause → Outcome
trap_of cause = Trap (cause_number cause)

abbrev pub outcome_of : base_outcome.Outcome → Outcome
outcome_of (outcome.Exit code) = Exit code
outcome_of (outcome.Trap cause) = trap_of cause

abbrev pub spawn_of : base_spawn.Spawn → Spawn
spawn_of s = record { program = s.program.0; arg = s.arg }

abbrev pub task_of : base_task.TaskRec → TaskRec
task_of t = record { id = t.id.0; program = t.program.0; arg = t.arg }

abbrev pub entry_of : base_entry.Entry → Entry
entry_of e = record { number = e.number.0; task = e.task.0; point = e.point.0; first = e.first.0; outcome = outcome_of e.outcome }

abbrev pub entry_if : Option base_entry.Entry → Option Entry
entry_if None = None
entry_if (Some e) = Some (entry_of e)

abbrev pub line_of : base_line.Line → Line
line_of line.Nothing = Nothing
line_of (line.Start core task at) = Start core.0 task.0 at.0
line_of (line.Stale core task lo hi) = Stale core.0 task.0 lo.0 hi.0
line_of (line.RefuseEmpty core task lo hi) = RefuseEmpty core.0 task.0 lo.0 hi.0
line_of (line.RefuseSlots core task object) = RefuseSlots core.0 task.0 object.0
line_of (line.RefuseRecords core task pending spawns) = RefuseRecords core.0 task.0 pending spawns
line_of (line.Finish e) = Finish (entry_of e)
line_of (line.Found e) = Found (entry_of e)
line_of line.Fail = Failed
line_of (line.Booted found boots) = Booted (entry_if found) boots

-- At which state of a run a kernel is, and what an event makes of it. This project's own.
use Rattle.std.specs.Prelude.{◌≡◌, ◌⊎◌, ◌+◌, ◌<◌, ◌≤◌, List, length}
use Rattle.rv_core.specs.State.{MachineState}
use Rattle.nv_base.specs.declared.lines.Line.{Line}
use Rattle.kernel_model.specs.Events.{State, event_step}
use Rattle.kernel_model.specs.Durable.{event_writes}
use Rattle.kernel_model.specs.Fit.{HasIds}
use Rattle.power_trace.specs.Events.{event_of}
use Rattle.power_trace.specs.declared.event.Event.{Event}
use Rattle.set_model.specs.Views.{line_of}
use Rattle.device_model.specs.Words.{Change, Words}
use Rattle.device_model.specs.Devices.{IsKindOn, layout_on}
use Rattle.table_machine.specs.Tables.{Tables}
use Rattle.table_machine.specs.Represents.{Represents}
use Rattle.recovery.specs.Images.{device_at}
use Rattle.headline.specs.Runs.{Origin, world_from}
use Rattle.headline.specs.Images.{Decodes, HasGrown}
use Rattle.vol_copy.specs.Turns.{setting_of}
use Rattle.kernel_core.specs.Keeping.{Keeps}
use Rattle.kernel_core.specs.declared.kernel.Kernel.{Kernel}

-- with the words of its device the kernel stands for a state of a run: there are tables between the two. There are ids and numbers for as many finishes as its listing has room for
pub record IsAt (o : Origin) (k : Kernel) (words : Words) (s : State MachineState) : Type 0 where
  pub device : device_at k.set words ≡ o.device
  pub kind : IsKindOn o.device
  pub tables : Tables MachineState
  pub keeps : Keeps k words tables
  pub represented : Represents (setting_of o.device.set (layout_on o.device)) o.base o.last tables words s
  pub ids : HasIds o.base (k.room + 1)
  pub numbers : o.base.number + k.room + 1 < 4294967295
  pub room : length s.history ≤ k.room

-- at some state of some run: so it may turn
abbrev pub Stands : Kernel → Words → Type 0
Stands k words = (o : Origin) × (s : State MachineState) × IsAt o k words s

-- the state of the event machine after an event
abbrev pub state_by : Origin → State MachineState → Event → State MachineState
state_by o s e = (event_step (world_from o) s (event_of e)).0

-- the kernel has come to the state after an event, its line is the event's, and as many writes were made
pub record IsEvent (o : Origin) (s : State MachineState) (e : Event) (new : Kernel) (later : Words) (log grown : List Change) (line : Line) : Type 0 where
  pub next : IsAt o new later (state_by o s e)
  pub tells : line_of line ≡ (event_step (world_from o) s (event_of e)).1
  pub written : HasGrown log grown (event_writes s (event_of e))

-- from each state of a run at which the kernel may be
unfoldable pub SimulatesEvent : (old : Kernel) (e : Event) (words : Words) (log : List Change) (new : Kernel) (later : Words) (grown : List Change) (line : Line) → Type 0
SimulatesEvent old e words log new later grown line =
    (o : Origin) (s : State MachineState) → IsAt o old words s → IsEvent o s e new later log grown line

-- a call was lost: the event's writes are made and the words hold what is durable after it, or none is made and they hold what was durable before
abbrev pub IsCutAt : (o : Origin) (s : State MachineState) (e : Event) (later : Words) (log grown : List Change) → Type 0
IsCutAt o s e later log grown =
    ((grown ≡ log) × Decodes o later s)
    ⊎ (HasGrown log grown (event_writes s (event_of e)) × Decodes o later (state_by o s e))

unfoldable pub CutsEvent : (old : Kernel) (e : Event) (words : Words) (log : List Change) (later : Words) (grown : List Change) → Type 0
CutsEvent old e words log later grown =
    (o : Origin) (s : State MachineState) → IsAt o old words s → IsCutAt o s e later log grown

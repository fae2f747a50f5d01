-- An event in memory, as the definitions have it.
use Rattle.std.specs.Prelude.{Option, Some, None}
use Rattle.kernel_model.specs.Events as model
use Rattle.power_trace.specs.declared.event.Event.{Event}
use Rattle.power_trace.specs.declared.event.Event.TheVariants.{Core, Fail}
use Rattle.power_trace.specs.declared.remaining.Next.{Next}
use Rattle.power_trace.specs.declared.remaining.Next.TheVariants as next

abbrev pub event_of : Event → model.Event
event_of (Core core) = model.CoreStep core.0
event_of Fail = model.Fail

-- what comes next, if an event is left
abbrev pub event_if : Next → Option Event
event_if (next.Core core) = Some (Core core)
event_if next.Fail = Some Fail
event_if next.End = None

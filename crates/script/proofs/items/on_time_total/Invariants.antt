use Rattle.std.proofs.Common.{◌≡◌, ◌+◌, ◌-◌, ◌^◌, min, take}
use Rattle.script.specs.ScheduleLines.{times_together}
use Rattle.script.proofs.items.on_time_total.Given as goal

abbrev pub invariant-loop-on : goal.invariant-loop-on
invariant-loop-on l = l.total ≡ min (l.others + times_together (take l.on-index l.all)) (2 ^ 64 - 1)

-- What an interval of the program is in the kernel's model, and how one is raised. This project's own.
use Rattle.std.specs.Prelude.{ℕ, ◌<◌, max, Bool, true, false, List, [], ◌∷◌, Option, Some, None}
use Rattle.nv_base.specs.declared.ids.Point.{Point}
use Rattle.interval.specs.declared.ranges.Interval as own
use Rattle.kernel_model.specs.Effects.{Write}
use Rattle.kernel_model.specs.Intervals.{Interval}
use Rattle.kernel_model.specs.Chain.{cut}

-- the number of a point, if there is one
abbrev pub number_of : Option Point → Option ℕ
number_of None = None
number_of (Some p) = Some p.0

-- an interval of the program, in plain numbers
abbrev pub range_of : own.Interval → Interval
range_of i = record { lo = i.lo.0; hi = number_of i.hi }

-- an interval without the points before p
abbrev pub raised_to : ℕ → Interval → Interval
raised_to p i = record { lo = max p i.lo; hi = i.hi }

-- an interval without the points from an end on, if there is one
abbrev pub cut_to : Option ℕ → Interval → Interval
cut_to None i = i
cut_to (Some p) i = cut p true i

-- whether anything is written
abbrev pub is_some_write : List Write → Bool
is_some_write [] = false
is_some_write (w ∷ ws) = true

-- some point comes before the end
abbrev pub IsAfterFirst : Option ℕ → Type 0
IsAfterFirst None = Unit {0}
IsAfterFirst (Some end) = 0 < end

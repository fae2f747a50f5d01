-- What a table may keep of who touched an object, in place of the listing: this project's own.
use Rattle.std.specs.Prelude.{ℕ, max, List, [], ◌∷◌, Option, Some, None, if◌then◌else◌}
use Rattle.kernel_model.specs.Effects.{Write}
use Rattle.kernel_model.specs.Items.{FinishRecord}
use Rattle.kernel_model.specs.Intervals.{Interval, touches, last_touch}

-- the bound of an object: the greatest point of those that read or wrote it, or else the floor, which is the clock at the last boot
abbrev pub bound_of : ℕ → ℕ → List FinishRecord → ℕ
bound_of floor o history = max floor (last_touch o history)

-- with the touch of a finish that joins, if one does
abbrev pub with_touch : Option FinishRecord → ℕ → ℕ → ℕ
with_touch None o bound = bound
with_touch (Some i) o bound = if touches i o then max i.point bound else bound

-- lo is raised for what a finish writes, by the bounds alone
abbrev pub raised_by : (ℕ → ℕ) → List Write → Interval → Interval
raised_by bound [] i = i
raised_by bound (w ∷ ws) i = let j = raised_by bound ws i in record { lo = max (bound w.object) j.lo; hi = j.hi }

-- The core steps and the failures of a list of events. This project's own.
use Rattle.std.specs.Prelude.{ℕ, ◌+◌, ◌<◌, List, [], ◌∷◌}
use Rattle.kernel_model.specs.Events.{Event, CoreStep, Fail}

-- the cores of the core steps, in order
abbrev pub cores_stepped : List Event → List ℕ
cores_stepped [] = []
cores_stepped (CoreStep core ∷ events) = core ∷ cores_stepped events
cores_stepped (Fail ∷ events) = cores_stepped events

-- how many failures there are
abbrev pub failure_count : List Event → ℕ
failure_count [] = 0
failure_count (CoreStep core ∷ events) = failure_count events
failure_count (Fail ∷ events) = 1 + failure_count events

-- a step of one of the cores, or a failure
abbrev pub IsOfCores : ℕ → Event → Type 0
IsOfCores cores (CoreStep core) = core < cores
IsOfCores cores Fail = Unit {0}

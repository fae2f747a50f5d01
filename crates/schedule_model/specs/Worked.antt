-- Worked schedules, computed from the definitions.
use Rattle.std.specs.Prelude.{◌≡◌, ℕ, List, [], ◌∷◌, ◌++◌, map, sum, replicate}
use Rattle.kernel_model.specs.Events.{Event, CoreStep, Fail}
use Rattle.schedule_model.specs.Schedules.{Steps, Mix}
use Rattle.schedule_model.specs.CoreSteps.{core_steps}
use Rattle.schedule_model.specs.Failures.{with_failures, events_of}

-- so many steps of core 0
abbrev pub steps : ℕ → List Event
steps n = map CoreStep (replicate n 0)

-- on-times of 30, 10 and 20 steps
abbrev pub IncreasingFailures : Type 0
IncreasingFailures =
    with_failures (30 ∷ 10 ∷ 20 ∷ []) (replicate 70 0)
    ≡ steps 30 ++ Fail ∷ steps 10 ++ Fail ∷ steps 20 ++ Fail ∷ steps 10

-- forty on-times of 500 steps, of which two end in time
abbrev pub LateOnTimes : Type 0
LateOnTimes = with_failures (replicate 40 500) (replicate 1200 0) ≡ steps 500 ++ Fail ∷ steps 500 ++ Fail ∷ steps 200

-- power fails at once, three times
abbrev pub FailuresAtOnce : Type 0
FailuresAtOnce = with_failures (0 ∷ 0 ∷ 0 ∷ []) (replicate 2 0) ≡ Fail ∷ Fail ∷ Fail ∷ steps 2

-- without a step, only on-times of 0 end
abbrev pub NoSteps : Type 0
NoSteps =
    (with_failures (0 ∷ 0 ∷ 1 ∷ 0 ∷ []) [] ≡ Fail ∷ Fail ∷ [])
    × (with_failures (1 ∷ 0 ∷ []) [] ≡ [])
    × (with_failures [] [] ≡ [])

-- a failure directly after the last step, and on-times of 0 behind it
abbrev pub FailureAtTheEnd : Type 0
FailureAtTheEnd =
    (with_failures (2 ∷ 1 ∷ 0 ∷ 0 ∷ 1 ∷ []) (replicate 3 0) ≡ steps 2 ++ Fail ∷ steps 1 ++ Fail ∷ Fail ∷ Fail ∷ [])
    × (with_failures (4 ∷ 0 ∷ []) (replicate 3 0) ≡ steps 3)

-- a sequence twice, and then steps that a generator draws
abbrev pub SequenceTwice : Type 0
SequenceTwice =
    events_of (record { cores = 2; items = Steps (0 ∷ 1 ∷ 1 ∷ []) 2 ∷ Mix 18 1 ∷ []; on_times = 4 ∷ [] })
    ≡ map CoreStep (0 ∷ 1 ∷ 1 ∷ 0 ∷ []) ++ Fail ∷ map CoreStep (1 ∷ 1 ∷ 1 ∷ [])

-- what the seeds 18 and 5 draw, computed beside this with the reference code of PCG
abbrev pub DrawnSteps : Type 0
DrawnSteps =
    (core_steps 2 (Mix 18 16 ∷ []) ≡ 1 ∷ 1 ∷ 0 ∷ 0 ∷ 1 ∷ 1 ∷ 0 ∷ 1 ∷ 0 ∷ 0 ∷ 1 ∷ 1 ∷ 0 ∷ 1 ∷ 0 ∷ 1 ∷ [])
    × (core_steps 8 (Mix 5 16 ∷ []) ≡ 1 ∷ 0 ∷ 7 ∷ 5 ∷ 0 ∷ 5 ∷ 4 ∷ 0 ∷ 6 ∷ 1 ∷ 7 ∷ 4 ∷ 3 ∷ 5 ∷ 7 ∷ 4 ∷ [])
    × (sum (core_steps 8 (Mix 5 1000 ∷ [])) ≡ 3598)

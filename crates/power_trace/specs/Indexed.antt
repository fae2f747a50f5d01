-- What a schedule keeps beside its items and on-times: where each item starts, and where power fails.
use Rattle.std.specs.Prelude.{◌≡◌, ℕ, ◌+◌, ◌-◌, nat_le, if◌then◌else◌, List, [], ◌∷◌}
use Rattle.schedule_model.specs.Schedules.{StepItem, Schedule}
use Rattle.schedule_model.specs.Limits.{step_count, steps_together, IsSchedule}

-- the number of the first step of each item, where the first item starts at a number
unfoldable pub starts_from : ℕ → List StepItem → List ℕ
starts_from at [] = []
starts_from at (item ∷ items) = at ∷ starts_from (at + step_count item) items

-- the number of each failure among the events, from a number on and with so many steps left
unfoldable pub failures_from : ℕ → ℕ → List ℕ → List ℕ
failures_from at left [] = []
failures_from at left (on ∷ on_times) =
    if nat_le on left then (at + on) ∷ failures_from (at + on + 1) (left - on) on_times else []

pub record IsIndexed (s : Schedule) (steps : ℕ) (starts failures : List ℕ) : Type 0 where
  pub proper : IsSchedule s
  pub counted : steps ≡ steps_together s.items
  pub started : starts ≡ starts_from 0 s.items
  pub failing : failures ≡ failures_from 0 steps s.on_times

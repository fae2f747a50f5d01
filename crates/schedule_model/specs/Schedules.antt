-- A schedule, as a script writes it down. This project's own.
use Rattle.std.specs.Prelude.{ℕ, List}

-- some core steps: a sequence of cores, so many times over, or so many that a generator draws
pub data StepItem : Type 0 where
  Steps : (order : List ℕ) (times : ℕ) → StepItem
  Mix : (seed count : ℕ) → StepItem

-- so many cores, which steps they take, and for how many steps power stays on each time
pub record Schedule : Type 0 where
  pub cores : ℕ
  pub items : List StepItem
  pub on_times : List ℕ

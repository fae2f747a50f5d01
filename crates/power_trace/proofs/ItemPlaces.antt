-- Which item has a step, by where the items start.
use Rattle.std.proofs.Common.{◌≡◌, ℕ, zero, suc, ◌+◌, ◌-◌, ◌*◌, ◌<◌, ◌≤◌, List, [], ◌∷◌, ◌++◌, take, length, get_or, inl, inr, refl, ap, ◌∙◌, arith}
use Rattle.std.specs.List.{AllByRecursion, slice_get}
use Rattle.std.proofs.lemmas.Bool.{cases_lt}
use Rattle.schedule_model.specs.Schedules.{StepItem, Steps, Mix}
use Rattle.schedule_model.specs.CoreSteps.{item_steps, core_steps}
use Rattle.schedule_model.specs.Limits.{step_count, steps_together, IsItem}
use Rattle.schedule_model.proofs.ForCallers.{length-item_steps}
use Rattle.power_trace.specs.Indexed.{starts_from}
use Rattle.power_trace.proofs.Places.{get-left, get-right}

pub length-starts : (items : List StepItem) (at : ℕ) → length (starts_from at items) ≡ length items
unfolding starts_from
length-starts [] at = refl
length-starts (item ∷ items) at = ap suc (length-starts items (at + step_count item))

-- an item starts after all steps of those before it
pub start_of : (items : List StepItem) (at k : ℕ) → k < length items → get_or (starts_from at items) k 0 ≡ at + steps_together (take k items)
unfolding starts_from
start_of [] at k h = absurd (omega arith)
start_of (item ∷ items) at zero h = omega arith
start_of (item ∷ items) at (suc k) h = omega (arith, start_of items (at + step_count item) k (omega arith))

-- up to and with item k
pub total_up_to : (items : List StepItem) (k : ℕ) (d : StepItem) → k < length items
    → steps_together (take (suc k) items) ≡ steps_together (take k items) + step_count (get_or items k d)
total_up_to [] k d h = absurd (omega arith)
total_up_to (item ∷ items) zero d h = omega arith
total_up_to (item ∷ items) (suc k) d h = omega (arith, total_up_to items k d (omega arith))

pub total_whole : (items : List StepItem) (k : ℕ) → length items ≤ k → steps_together (take k items) ≡ steps_together items
total_whole [] zero h = refl
total_whole [] (suc k) h = refl
total_whole (item ∷ items) zero h = absurd (omega arith)
total_whole (item ∷ items) (suc k) h = ap (λ n. step_count item + n) (total_whole items k (omega arith))

one_product : (a b : ℕ) → 1 ≤ a → 1 ≤ b → 1 ≤ a * b
one_product a b h k = grind arith

-- an item within the limits has a step
pub some_step : (cores : ℕ) (item : StepItem) → IsItem cores item → 1 ≤ step_count item
some_step cores (Steps order times) p = one_product (length order) times p.0 p.1
some_step cores (Mix seed count) p = p

totals_rise : (cores : ℕ) (items : List StepItem) (i j : ℕ) → AllByRecursion (IsItem cores) items → i < j → j ≤ length items
    → steps_together (take i items) < steps_together (take j items)
totals_rise cores items i zero p l h = absurd (omega arith)
totals_rise cores [] i (suc j) p l h = absurd (omega arith)
totals_rise cores (item ∷ items) zero (suc j) p l h = omega (arith, some_step cores item p.0)
totals_rise cores (item ∷ items) (suc i) (suc j) p l h = omega (arith, totals_rise cores items i j p.1 (omega arith) (omega arith))

pub start_rises : (cores : ℕ) (items : List StepItem) (at i j : ℕ) → AllByRecursion (IsItem cores) items → i < j → j < length (starts_from at items)
    → get_or (starts_from at items) i 0 < get_or (starts_from at items) j 0
start_rises cores items at i j p l h =
    let k : j < length items = omega (arith, length-starts items at) in
    omega (arith, start_of items at i (omega arith), start_of items at j k, totals_rise cores items i j p l (omega arith))

-- the step of this number within item k
pub step_of_item : (cores : ℕ) (items : List StepItem) (k m : ℕ) (d : StepItem) → k < length items → m < step_count (get_or items k d)
    → slice_get (core_steps cores items) (steps_together (take k items) + m) ≡ slice_get (item_steps cores (get_or items k d)) m
unfolding core_steps
step_of_item cores [] k m d h l = absurd (omega arith)
step_of_item cores (item ∷ items) zero m d h l =
    let e : 0 + m ≡ m = omega arith in
    ap (slice_get (item_steps cores item ++ core_steps cores items)) e
    ∙ get-left (item_steps cores item) (core_steps cores items) m (omega (arith, length-item_steps cores item))
step_of_item cores (item ∷ items) (suc k) m d h l =
    let e : step_count item + steps_together (take k items) + m ≡ length (item_steps cores item) + (steps_together (take k items) + m) =
    omega (arith, length-item_steps cores item) in
    ap (slice_get (item_steps cores item ++ core_steps cores items)) e
    ∙ get-right (item_steps cores item) (core_steps cores items) (steps_together (take k items) + m)
    ∙ step_of_item cores items k m d (omega arith) l

-- the item that is found for a step: how far into it the step is, and which step that is of all
pub record IsInItem (items : List StepItem) (step k : ℕ) (item : StepItem) : Type 0 where
  pub within : step - get_or (starts_from 0 items) k 0 < step_count item
  pub whole : step ≡ steps_together (take k items) + (step - get_or (starts_from 0 items) k 0)

pub found_item : (items : List StepItem) (step k : ℕ) (item : StepItem) → k < length items → get_or items k item ≡ item
    → get_or (starts_from 0 items) k 0 ≤ step
    → ((j : ℕ) → k < j → j < length (starts_from 0 items) → step < get_or (starts_from 0 items) j 0)
    → step < steps_together items
    → IsInItem items step k item
found_item items step k item h e low high total =
    let start = start_of items 0 k h in
    let next = total_up_to items k item h ∙ ap (λ x. steps_together (take k items) + step_count x) e in
    let below : step < steps_together (take (suc k) items) = elim (cases_lt (suc k) (length items)) [
      | inl g ↦ omega (arith, start_of items 0 (suc k) g, high (suc k) (omega arith) (omega (arith, length-starts items 0)))
      | inr g ↦ omega (arith, total_whole items (suc k) g)
    ] in
    record { within = omega arith; whole = omega arith }

pub step_found : (cores : ℕ) (items : List StepItem) (step k : ℕ) (item : StepItem) → k < length items → get_or items k item ≡ item
    → IsInItem items step k item
    → slice_get (core_steps cores items) step ≡ slice_get (item_steps cores item) (step - get_or (starts_from 0 items) k 0)
step_found cores items step k item h e p =
    ap (slice_get (core_steps cores items)) p.whole
    ∙ step_of_item cores items k (step - get_or (starts_from 0 items) k 0) item h (let q = p.within in rw e q)
    ∙ ap (λ x. slice_get (item_steps cores x) (step - get_or (starts_from 0 items) k 0)) e

pub some_item : (items : List StepItem) (step : ℕ) → step < steps_together items → 0 < length items
some_item [] step h = absurd (omega arith)
some_item (item ∷ items) step h = omega arith

-- What is found among the failures of a schedule.
use Rattle.std.proofs.Common.{◌≡◌, ℕ, ◌+◌, ◌-◌, ◌<◌, ◌≤◌, List, length, Some, Ok, Err, ap, ◌∙◌, sym, subst, arith}
use Rattle.std.specs.Prelude.{option_map}
use Rattle.std.specs.Ordering.{nat_cmp}
use Rattle.std.specs.List.{slice_get}
use Rattle.std.specs.List.Sorted.{IsBinarySearchResult}
use Rattle.std.proofs.lemmas.List.Sorted.{searched}
use Rattle.std.proofs.lemmas.Option.{slice_get-map}
use Rattle.kernel_model.specs.Events.{CoreStep, Fail}
use Rattle.schedule_model.specs.Schedules.{Schedule}
use Rattle.schedule_model.specs.CoreSteps.{core_steps}
use Rattle.schedule_model.specs.Failures.{events_of}
use Rattle.schedule_model.proofs.ForCallers.{length-core_steps}
use Rattle.power_trace.specs.Indexed.{IsIndexed, failures_from}
use Rattle.power_trace.proofs.FailurePlaces.{few, failures-Rises}
use Rattle.power_trace.proofs.EventPlaces.{IsStep, length-events, failure_at, step_at}

steps_of : (s : Schedule) (steps : ℕ) (starts failures : List ℕ) → IsIndexed s steps starts failures → steps ≡ length (core_steps s.cores s.items)
steps_of s steps starts failures p = p.counted ∙ sym (length-core_steps s.cores s.items)

pub indexed_length : (s : Schedule) (steps : ℕ) (starts failures : List ℕ) → IsIndexed s steps starts failures
    → length (events_of s) ≡ steps + length failures
indexed_length s steps starts failures p =
    omega (arith, length-events s.on_times (core_steps s.cores s.items) 0 steps (steps_of s steps starts failures p), ap length p.failing)

-- no more than 1,000,000 events
pub indexed_short : (s : Schedule) (steps : ℕ) (starts failures : List ℕ) → IsIndexed s steps starts failures → steps + length failures ≤ 1000000
indexed_short s steps starts failures p = omega (arith, p.proper.short, p.counted, ap length p.failing, few s.on_times 0 steps)

pub indexed_failure : (s : Schedule) (steps n k : ℕ) (starts failures found : List ℕ) → IsIndexed s steps starts failures → found ≡ failures
    → IsBinarySearchResult (λ y. nat_cmp y n) found (Ok k) → slice_get (events_of s) n ≡ Some Fail
indexed_failure s steps n k starts failures found p e h =
    let F = failures_from 0 steps s.on_times in
    let h' = subst (λ xs. IsBinarySearchResult (λ y. nat_cmp y n) xs (Ok k)) (e ∙ p.failing) h in
    let place = searched F n (Ok k) h' (failures-Rises s.on_times 0 steps) in
    failure_at s.on_times (core_steps s.cores s.items) 0 steps n k (steps_of s steps starts failures p)
    (record { within = place.0; number = omega (arith, place.1) })

pub indexed_step : (s : Schedule) (steps n i : ℕ) (starts failures found : List ℕ) → IsIndexed s steps starts failures → found ≡ failures
    → n < length (events_of s)
    → IsBinarySearchResult (λ y. nat_cmp y n) found (Err i) → IsStep s.on_times (core_steps s.cores s.items) n i
indexed_step s steps n i starts failures found p e l h =
    let F = failures_from 0 steps s.on_times in
    let h' = subst (λ xs. IsBinarySearchResult (λ y. nat_cmp y n) xs (Err i)) (e ∙ p.failing) h in
    let place = searched F n (Err i) h' (failures-Rises s.on_times 0 steps) in
    step_at s.on_times (core_steps s.cores s.items) 0 steps n i (steps_of s steps starts failures p) l
    (record { within = place.0; below = λ k g. omega (arith, place.1 k g); above = λ k g f. omega (arith, place.2 k g f) })

-- the event of a step, from the core that takes it
pub event_of_step : (s : Schedule) (n i core : ℕ) → IsStep s.on_times (core_steps s.cores s.items) n i
    → slice_get (core_steps s.cores s.items) (n - i) ≡ Some core → slice_get (events_of s) n ≡ Some (CoreStep core)
event_of_step s n i core p h =
    p.step ∙ slice_get-map CoreStep (core_steps s.cores s.items) (n - i) ∙ ap (option_map CoreStep) h

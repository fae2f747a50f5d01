-- Failures among steps: what they keep, and how many there are.
use Rattle.std.proofs.Common.{◌≡◌, ℕ, zero, suc, ◌+◌, ◌<◌, ◌≤◌, ◌↔◌, List, [], ◌∷◌, ◌++◌, map, take, drop, length, sum, Some, inl, inr, ap, ◌∙◌, sym, subst, arith, length-drop}
use Rattle.std.proofs.lemmas.List.{take-append-drop}
use Rattle.std.proofs.lemmas.List.Sums.{sum_by-cons}
use Rattle.std.proofs.lemmas.Bool.{cases_lt}
use Rattle.kernel_model.specs.Events.{Event, CoreStep, Fail}
use Rattle.std.specs.List.{AllByRecursion, slice_get}
use Rattle.schedule_model.specs.Schedules.{Schedule}
use Rattle.schedule_model.specs.CoreSteps.{core_steps}
use Rattle.schedule_model.specs.Failures.{with_failures, events_of}
use Rattle.schedule_model.specs.Limits.{IsSchedule}
use Rattle.schedule_model.specs.Parts.{cores_stepped, failure_count, IsOfCores}
use Rattle.schedule_model.proofs.EventLists.{cores_stepped-append, each_event, cores_stepped-map, failure_count-map, failure_count-first, length-parts}
use Rattle.schedule_model.proofs.StepLaws.{all-core_steps}
use Rattle.schedule_model.proofs.Reached.{none_left, reached, not_reached}

pub steps_kept : (on_times steps : List ℕ) → cores_stepped (with_failures on_times steps) ≡ steps
steps_kept [] steps = ap cores_stepped (none_left steps) ∙ cores_stepped-map steps
steps_kept (on ∷ on_times) steps = elim (cases_lt (length steps) on) [
  | inl h ↦ ap cores_stepped (not_reached on on_times steps h) ∙ cores_stepped-map steps
  | inr h ↦ ap cores_stepped (reached on on_times steps h)
      ∙ cores_stepped-append (map CoreStep (take on steps)) (Fail ∷ with_failures on_times (drop on steps))
      ∙ ap (λ s. s ++ cores_stepped (with_failures on_times (drop on steps))) (cores_stepped-map (take on steps))
      ∙ ap (λ s. take on steps ++ s) (steps_kept on_times (drop on steps))
      ∙ take-append-drop on steps
]

-- no failure, if the first on-time does not end
pub count_none : (on : ℕ) (on_times steps : List ℕ) → length steps < on → failure_count (with_failures (on ∷ on_times) steps) ≡ 0
count_none on on_times steps h = ap failure_count (not_reached on on_times steps h) ∙ failure_count-map steps

-- one more than after it, if it does
pub count_more : (on : ℕ) (on_times steps : List ℕ) → on ≤ length steps
    → failure_count (with_failures (on ∷ on_times) steps) ≡ 1 + failure_count (with_failures on_times (drop on steps))
count_more on on_times steps h =
    ap failure_count (reached on on_times steps h) ∙ failure_count-first (take on steps) (with_failures on_times (drop on steps))

pub count_few : (on_times steps : List ℕ) → failure_count (with_failures on_times steps) ≤ length on_times
count_few [] steps = omega (arith, ap failure_count (none_left steps), failure_count-map steps)
count_few (on ∷ on_times) steps = elim (cases_lt (length steps) on) [
  | inl h ↦ omega (arith, count_none on on_times steps h)
  | inr h ↦ omega (arith, count_more on on_times steps h, count_few on_times (drop on steps))
]

pub length_events : (on_times steps : List ℕ) → length (with_failures on_times steps) ≡ length steps + failure_count (with_failures on_times steps)
length_events on_times steps = omega (arith, length-parts (with_failures on_times steps), ap length (steps_kept on_times steps))

pub sum-cons : (x : ℕ) (xs : List ℕ) → sum (x ∷ xs) ≡ x + sum xs
sum-cons x xs = sum_by-cons (λ (y : ℕ). y) x xs

-- the on-times up to number k end by the last step, exactly where more than k failures come
pub in_reach : (on_times steps : List ℕ) (k : ℕ) → k < length on_times
    → (k < failure_count (with_failures on_times steps)) ↔ (sum (take (suc k) on_times) ≤ length steps)
in_reach [] steps k h = absurd (omega arith)
in_reach (on ∷ on_times) steps zero h = elim (cases_lt (length steps) on) [
  | inl g ↦ (λ p. absurd (omega (arith, count_none on on_times steps g)), λ p. absurd (omega (arith, sum-cons on [])))
  | inr g ↦ (λ p. omega (arith, sum-cons on []), λ p. omega (arith, count_more on on_times steps g))
]
in_reach (on ∷ on_times) steps (suc k) h = elim (cases_lt (length steps) on) [
  | inl g ↦ (λ p. absurd (omega (arith, count_none on on_times steps g)), λ p. absurd (omega (arith, sum-cons on (take (suc k) on_times))))
  | inr g ↦
      let more : k < length on_times = omega arith in
      let after = in_reach on_times (drop on steps) k more in
      let total = sum-cons on (take (suc k) on_times) in (
        λ p. omega (arith, after.0 (omega (arith, count_more on on_times steps g)), length-drop on steps),
        λ p. omega (arith, count_more on on_times steps g, after.1 (omega (arith, length-drop on steps))),
      )
]

-- within the limits each core that steps is one of the cores
pub of_cores : (s : Schedule) → IsSchedule s → AllByRecursion (λ core. core < s.cores) (cores_stepped (events_of s))
of_cores s h =
    let P : List ℕ → Type 0 = AllByRecursion (λ core. core < s.cores) in
    subst P (sym (steps_kept s.on_times (core_steps s.cores s.items))) (all-core_steps s.cores s.items h.some_core h.proper)

pub event_of_cores : (s : Schedule) (n : ℕ) (event : Event) → IsSchedule s → slice_get (events_of s) n ≡ Some event → IsOfCores s.cores event
event_of_cores s n event h e = each_event s.cores (events_of s) n event (of_cores s h) e

-- Which event has a number, by the numbers of the failures.
use Rattle.std.proofs.Common.{◌≡◌, ℕ, zero, suc, ◌+◌, ◌-◌, ◌<◌, ◌≤◌, List, [], ◌∷◌, ◌++◌, map, take, drop, length, get_or, Some, inl, inr, refl, ap, ◌∙◌, subst, arith, length-append, length-drop}
use Rattle.std.specs.List.{slice_get}
use Rattle.std.proofs.lemmas.List.{length-map, length-take-le}
use Rattle.std.proofs.lemmas.Bool.{cases_lt}
use Rattle.kernel_model.specs.Events.{Event, CoreStep, Fail}
use Rattle.schedule_model.specs.Failures.{with_failures}
use Rattle.schedule_model.proofs.ForCallers.{none_left, not_reached, reached}
use Rattle.power_trace.specs.Indexed.{failures_from}
use Rattle.power_trace.proofs.Places.{get-left, get-right}
use Rattle.power_trace.proofs.FailurePlaces.{none_on, ends, ends_not, failures-AreFrom}

-- a failure of this list has this number
pub record IsAt (failures : List ℕ) (n k : ℕ) : Type 0 where
  pub within : k < length failures
  pub number : get_or failures k 0 ≡ n

-- so many failures of this list have a lower number, and the others a greater one
pub record IsBetween (failures : List ℕ) (n i : ℕ) : Type 0 where
  pub within : i ≤ length failures
  pub below : (k : ℕ) → k < i → get_or failures k 0 < n
  pub above : (k : ℕ) → i ≤ k → k < length failures → n < get_or failures k 0

first_steps : (on : ℕ) (steps : List ℕ) → on ≤ length steps → length (map CoreStep (take on steps)) ≡ on
first_steps on steps h = length-map (take on steps) CoreStep ∙ length-take-le on steps h

taken : (on : ℕ) (steps : List ℕ) (n : ℕ) → n < on → slice_get (map CoreStep (take on steps)) n ≡ slice_get (map CoreStep steps) n
taken zero steps n h = absurd (omega arith)
taken (suc on) [] n h = refl
taken (suc on) (s ∷ steps) zero h = refl
taken (suc on) (s ∷ steps) (suc n) h = taken on steps n (omega arith)

dropped : (on : ℕ) (steps : List ℕ) (n : ℕ) → slice_get (map CoreStep (drop on steps)) n ≡ slice_get (map CoreStep steps) (on + n)
dropped zero steps n = ap (slice_get (map CoreStep steps)) (let e : n ≡ 0 + n = omega arith in e)
dropped (suc on) [] n = refl
dropped (suc on) (s ∷ steps) n =
    let e : suc (on + n) ≡ suc on + n = omega arith in
    dropped on steps n ∙ ap (slice_get (map CoreStep (s ∷ steps))) e

-- the events before the first failure, this failure, and those after it
before : (on : ℕ) (steps : List ℕ) (events : List Event) (n : ℕ) → on ≤ length steps → n < on
    → slice_get (map CoreStep (take on steps) ++ Fail ∷ events) n ≡ slice_get (map CoreStep steps) n
before on steps events n p h =
    get-left (map CoreStep (take on steps)) (Fail ∷ events) n (omega (arith, first_steps on steps p)) ∙ taken on steps n h

there : (on : ℕ) (steps : List ℕ) (events : List Event) (n : ℕ) → on ≤ length steps → n ≡ on
    → slice_get (map CoreStep (take on steps) ++ Fail ∷ events) n ≡ Some Fail
there on steps events n p h =
    let e : n ≡ length (map CoreStep (take on steps)) + 0 = omega (arith, first_steps on steps p) in
    ap (slice_get (map CoreStep (take on steps) ++ Fail ∷ events)) e ∙ get-right (map CoreStep (take on steps)) (Fail ∷ events) 0

after : (on : ℕ) (steps : List ℕ) (events : List Event) (n m : ℕ) → on ≤ length steps → n ≡ on + suc m
    → slice_get (map CoreStep (take on steps) ++ Fail ∷ events) n ≡ slice_get events m
after on steps events n m p h =
    let e : n ≡ length (map CoreStep (take on steps)) + suc m = omega (arith, first_steps on steps p) in
    ap (slice_get (map CoreStep (take on steps) ++ Fail ∷ events)) e ∙ get-right (map CoreStep (take on steps)) (Fail ∷ events) (suc m)

-- how many events there are
pub length-events : (on_times steps : List ℕ) (at left : ℕ) → left ≡ length steps
    → length (with_failures on_times steps) ≡ left + length (failures_from at left on_times)
length-events [] steps at left e =
    omega (arith, ap length (none_left steps), length-map steps CoreStep, ap length (none_on at left))
length-events (on ∷ on_times) steps at left e = elim (cases_lt left on) [
  | inl h ↦ omega (arith, ap length (not_reached on on_times steps (omega arith)), length-map steps CoreStep, ap length (ends_not at left on on_times h))
  | inr h ↦
      let p : on ≤ length steps = omega arith in
      let rest = length-events on_times (drop on steps) (at + on + 1) (left - on) (omega (arith, length-drop on steps)) in
      omega (
        arith,
        ap length (reached on on_times steps p),
        length-append (map CoreStep (take on steps)) (Fail ∷ with_failures on_times (drop on steps)),
        first_steps on steps p,
        rest,
        ap length (ends at left on on_times h),
      )
]

-- in which part a failure stands
failure_in_part : (on_times steps : List ℕ) (at left n on k : ℕ) → left ≡ length steps → on ≤ left
    → IsAt ((at + on) ∷ failures_from (at + on + 1) (left - on) on_times) (at + n) k
    → ((m j : ℕ) → IsAt (failures_from (at + on + 1) (left - on) on_times) ((at + on + 1) + m) j
    → slice_get (with_failures on_times (drop on steps)) m ≡ Some Fail)
    → slice_get (map CoreStep (take on steps) ++ Fail ∷ with_failures on_times (drop on steps)) n ≡ Some Fail
failure_in_part on_times steps at left n on zero e h p rest =
    there on steps (with_failures on_times (drop on steps)) n (omega arith) (omega (arith, p.number))
failure_in_part on_times steps at left n on (suc k) e h p rest =
    let low = failures-AreFrom on_times (at + on + 1) (left - on) k (omega (arith, p.within)) in
    let m = n - (on + 1) in
    after on steps (with_failures on_times (drop on steps)) n m (omega arith) (omega (arith, low, p.number))
    ∙ rest m k (record { within = omega (arith, p.within); number = omega (arith, low, p.number) })

-- at the number of a failure power fails
pub failure_at : (on_times steps : List ℕ) (at left n k : ℕ) → left ≡ length steps → IsAt (failures_from at left on_times) (at + n) k
    → slice_get (with_failures on_times steps) n ≡ Some Fail
failure_at [] steps at left n k e p = absurd (omega (arith, p.within, ap length (none_on at left)))
failure_at (on ∷ on_times) steps at left n k e p = elim (cases_lt left on) [
  | inl h ↦ absurd (omega (arith, p.within, ap length (ends_not at left on on_times h)))
  | inr h ↦
      ap (λ es. slice_get es n) (reached on on_times steps (omega arith))
      ∙ failure_in_part on_times steps at left n on k e h (subst (λ fs. IsAt fs (at + n) k) (ends at left on on_times h) p)
      (λ m j q. failure_at on_times (drop on steps) (at + on + 1) (left - on) m j (omega (arith, length-drop on steps)) q)
]

-- the core step that a number has between the failures
pub record IsStep (on_times steps : List ℕ) (n i : ℕ) : Type 0 where
  pub before : i ≤ n
  pub within : n - i < length steps
  pub step : slice_get (with_failures on_times steps) n ≡ slice_get (map CoreStep steps) (n - i)

-- before the first failure
first_part : (on_times steps : List ℕ) (n i : ℕ) → i ≡ 0 → n < length steps
    → slice_get (with_failures on_times steps) n ≡ slice_get (map CoreStep steps) n → IsStep on_times steps n i
first_part on_times steps n i e h s =
    let same : n ≡ n - i = omega arith in
    record { before = omega arith; within = omega arith; step = s ∙ ap (slice_get (map CoreStep steps)) same }

-- in which part a step stands
step_in_part : (on_times steps : List ℕ) (at left n on i : ℕ) → left ≡ length steps → on ≤ left
    → n < length (with_failures (on ∷ on_times) steps)
    → IsBetween ((at + on) ∷ failures_from (at + on + 1) (left - on) on_times) (at + n) i
    → ((m j : ℕ) → m < length (with_failures on_times (drop on steps))
    → IsBetween (failures_from (at + on + 1) (left - on) on_times) ((at + on + 1) + m) j → IsStep on_times (drop on steps) m j)
    → IsStep (on ∷ on_times) steps n i
step_in_part on_times steps at left n on zero e h l p rest =
    let low : n < on = omega (arith, p.above 0 (omega arith) (omega arith)) in
    let q : on ≤ length steps = omega arith in
    first_part (on ∷ on_times) steps n 0 refl (omega arith)
    (ap (λ es. slice_get es n) (reached on on_times steps q) ∙ before on steps (with_failures on_times (drop on steps)) n q low)
step_in_part on_times steps at left n on (suc i) e h l p rest =
    let q : on ≤ length steps = omega arith in
    let high : on < n = omega (arith, p.below 0 (omega arith)) in
    let m = n - (on + 1) in
    let place : n ≡ on + suc m = omega arith in
    let short : m < length (with_failures on_times (drop on steps)) =
    omega (
      arith,
      ap length (reached on on_times steps q),
      length-append (map CoreStep (take on steps)) (Fail ∷ with_failures on_times (drop on steps)),
      first_steps on steps q,
    ) in
    let r : IsStep on_times (drop on steps) m i = rest m i short (record {
      within = omega (arith, p.within);
      below = λ k g. omega (arith, p.below (suc k) (omega arith));
      above = λ k g f. omega (arith, p.above (suc k) (omega arith) (omega arith));
    }) in
    let number : on + (m - i) ≡ n - suc i = omega (arith, r.before) in
    record {
      before = omega (arith, r.before);
      within = omega (arith, r.before, r.within, length-drop on steps);
      step = ap (λ es. slice_get es n) (reached on on_times steps q)
          ∙ after on steps (with_failures on_times (drop on steps)) n m q place
          ∙ r.step
          ∙ dropped on steps (m - i)
          ∙ ap (slice_get (map CoreStep steps)) number;
    }

-- between the failures a core takes a step: the one of its number without the failures before it
pub step_at : (on_times steps : List ℕ) (at left n i : ℕ) → left ≡ length steps → n < length (with_failures on_times steps)
    → IsBetween (failures_from at left on_times) (at + n) i → IsStep on_times steps n i
step_at [] steps at left n i e l p =
    first_part [] steps n i (omega (arith, p.within, ap length (none_on at left)))
    (omega (arith, ap length (none_left steps), length-map steps CoreStep))
    (ap (λ es. slice_get es n) (none_left steps))
step_at (on ∷ on_times) steps at left n i e l p = elim (cases_lt left on) [
  | inl h ↦
      first_part (on ∷ on_times) steps n i (omega (arith, p.within, ap length (ends_not at left on on_times h)))
      (omega (arith, ap length (not_reached on on_times steps (omega arith)), length-map steps CoreStep))
      (ap (λ es. slice_get es n) (not_reached on on_times steps (omega arith)))
  | inr h ↦
      step_in_part on_times steps at left n on i e h l (subst (λ fs. IsBetween fs (at + n) i) (ends at left on on_times h) p)
      (λ m j k q. step_at on_times (drop on steps) (at + on + 1) (left - on) m j (omega (arith, length-drop on steps)) k q)
]

-- How many failures there are among the events.
use Rattle.std.proofs.Common.{◌≡◌, ℕ, ◌+◌, ◌-◌, ◌≤◌, List, [], ◌∷◌, ◌++◌, map, take, drop, length, inl, inr, refl, ap, sym, ◌∙◌, arith, length-drop}
use Rattle.std.proofs.lemmas.Bool.{cases_lt}
use Rattle.kernel_model.specs.Events.{Event, CoreStep, Fail}
use Rattle.schedule_model.specs.Schedules.{Schedule}
use Rattle.schedule_model.specs.CoreSteps.{core_steps}
use Rattle.schedule_model.specs.Failures.{with_failures, events_of}
use Rattle.schedule_model.specs.Parts.{failure_count}
use Rattle.schedule_model.proofs.ForCallers.{failure_count-map, length-core_steps, none_left, not_reached, reached}
use Rattle.power_trace.specs.Indexed.{IsIndexed, failures_from}
use Rattle.power_trace.proofs.FailurePlaces.{none_on, ends, ends_not}

behind : (steps : List ℕ) (events : List Event) → failure_count (map CoreStep steps ++ events) ≡ failure_count events
behind [] events = refl
behind (s ∷ steps) events = behind steps events

pub counts : (on_times steps : List ℕ) (at left : ℕ) → left ≡ length steps → length (failures_from at left on_times) ≡ failure_count (with_failures on_times steps)
counts [] steps at left e = ap length (none_on at left) ∙ sym (ap failure_count (none_left steps) ∙ failure_count-map steps)
counts (on ∷ on_times) steps at left e = elim (cases_lt left on) [
  | inl h ↦ ap length (ends_not at left on on_times h) ∙ sym (ap failure_count (not_reached on on_times steps (omega arith)) ∙ failure_count-map steps)
  | inr h ↦
      let p : on ≤ length steps = omega arith in
      let rest = counts on_times (drop on steps) (at + on + 1) (left - on) (omega (arith, length-drop on steps)) in
      omega (
        arith,
        ap length (ends at left on on_times h),
        rest,
        ap failure_count (reached on on_times steps p),
        behind (take on steps) (Fail ∷ with_failures on_times (drop on steps)),
      )
]

pub indexed_failures : (s : Schedule) (steps : ℕ) (starts failures : List ℕ) → IsIndexed s steps starts failures → length failures ≡ failure_count (events_of s)
indexed_failures s steps starts failures h =
    ap length h.failing ∙ counts s.on_times (core_steps s.cores s.items) 0 steps (h.counted ∙ sym (length-core_steps s.cores s.items))

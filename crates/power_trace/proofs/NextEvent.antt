-- The events that are left, after the next one.
use Rattle.std.proofs.Common.{◌≡◌, ℕ, zero, suc, ◌-◌, ◌≤◌, List, [], ◌∷◌, ◌++◌, map, length, Option, Some, None, inl, inr, refl, ap, subst, ◌∙◌, sym, arith}
use Rattle.std.specs.Prelude.{option_map}
use Rattle.std.proofs.lemmas.Bool.{cases_lt}
use Rattle.std.proofs.lemmas.List.{map-append}
use Rattle.kernel_model.specs.Events.{CoreStep, Fail}
use Rattle.schedule_model.specs.Failures.{with_failures}
use Rattle.schedule_model.proofs.ForCallers.{none_left, not_reached, reached}
use Rattle.power_trace.specs.DueTimes.{due_times}

pub fails_now : (due due' : Option ℕ) (later later' steps : List ℕ) → due ≡ Some 0 → due_times due' later' ≡ later
    → with_failures (due_times due later) steps ≡ Fail ∷ with_failures (due_times due' later') steps
fails_now due due' later later' steps h e =
    ap (λ d. with_failures (due_times d later) steps) h
    ∙ reached 0 later steps (omega arith)
    ∙ ap (λ on. Fail ∷ with_failures on steps) (sym e)

step_counted : (due : ℕ) (later : List ℕ) (core : ℕ) (steps : List ℕ)
    → with_failures (suc due ∷ later) (core ∷ steps) ≡ CoreStep core ∷ with_failures (due ∷ later) steps
step_counted due later core steps = elim (cases_lt (length steps) due) [
  | inl h ↦ not_reached (suc due) later (core ∷ steps) (omega arith) ∙ ap (λ es. CoreStep core ∷ es) (sym (not_reached due later steps h))
  | inr h ↦ reached (suc due) later (core ∷ steps) (omega arith) ∙ ap (λ es. CoreStep core ∷ es) (sym (reached due later steps h))
]

-- the steps that are worked out, of which no more are due before the next failure
steps_due : (due : ℕ) (later ahead left : List ℕ) → length ahead ≤ due
    → with_failures (due ∷ later) (ahead ++ left) ≡ map CoreStep ahead ++ with_failures ((due - length ahead) ∷ later) left
steps_due due later [] left h =
    let none : due ≡ due - 0 = omega arith in
    ap (λ n. with_failures (n ∷ later) left) none
steps_due zero later (core ∷ ahead) left h = absurd (omega arith)
steps_due (suc due) later (core ∷ ahead) left h =
    let one : due - length ahead ≡ suc due - length (core ∷ ahead) = omega arith in
    step_counted due later core (ahead ++ left)
    ∙ ap (λ es. CoreStep core ∷ es) (steps_due due later ahead left (omega arith))
    ∙ ap (λ n. CoreStep core ∷ (map CoreStep ahead ++ with_failures (n ∷ later) left)) one

steps_ahead : (due : Option ℕ) (later ahead left : List ℕ) → ((n : ℕ) → due ≡ Some n → length ahead ≤ n)
    → with_failures (due_times due later) (ahead ++ left)
    ≡ map CoreStep ahead ++ with_failures (due_times (option_map (λ n. n - length ahead) due) later) left
steps_ahead None later ahead left h =
    none_left (ahead ++ left) ∙ map-append CoreStep ahead left ∙ ap (λ es. map CoreStep ahead ++ es) (sym (none_left left))
steps_ahead (Some due) later ahead left h = steps_due due later ahead left (h due refl)

-- the first of them is the next event
pub steps_now : (due due' : Option ℕ) (later steps ahead left ahead' : List ℕ) (core count : ℕ)
    → steps ≡ ahead ++ left → count ≡ length ahead → ((n : ℕ) → due ≡ Some n → count ≤ n)
    → due' ≡ option_map (λ n. n - count) due → ahead ≡ core ∷ ahead'
    → with_failures (due_times due later) steps ≡ CoreStep core ∷ (map CoreStep ahead' ++ with_failures (due_times due' later) left)
steps_now due due' later steps ahead left ahead' core count e k h d f =
    let few : (n : ℕ) → due ≡ Some n → length ahead ≤ n = λ n is. subst (λ m. m ≤ n) k (h n is) in
    let left_due : option_map (λ n. n - length ahead) due ≡ due' = ap (λ m. option_map (λ n. n - m) due) (sym k) ∙ sym d in
    ap (with_failures (due_times due later)) e
    ∙ steps_ahead due later ahead left few
    ∙ ap (λ d. map CoreStep ahead ++ with_failures (due_times d later) left) left_due
    ∙ ap (λ a. map CoreStep a ++ with_failures (due_times due' later) left) f

pub over_now : (due : Option ℕ) (later steps : List ℕ) → (due ≡ Some 0 → ⊥) → steps ≡ [] → with_failures (due_times due later) steps ≡ []
over_now None later steps p h = ap (with_failures []) h ∙ none_left []
over_now (Some zero) later steps p h = absurd (p refl)
over_now (Some (suc due)) later steps p h = ap (with_failures (suc due ∷ later)) h ∙ not_reached (suc due) later [] (omega arith)

-- where none was worked out
pub none_now : (due due' : Option ℕ) (later steps ahead left : List ℕ) (count : ℕ) → (due ≡ Some 0 → ⊥)
    → steps ≡ ahead ++ left → count ≡ length ahead → due' ≡ option_map (λ n. n - count) due → ahead ≡ [] → (ahead ≡ [] → left ≡ [])
    → (with_failures (due_times due later) steps ≡ []) × (with_failures (due_times due' later) left ≡ [])
none_now due due' later steps ahead left count p e k d h none =
    let nothing : steps ≡ [] = e ∙ ap (λ a. a ++ left) h ∙ none h in
    let no_count : count ≡ 0 = k ∙ ap length h in
    let same : due' ≡ due = d ∙ ap (λ m. option_map (λ n. n - m) due) no_count ∙ kept due in
    (over_now due later steps p nothing, ap (λ d. with_failures (due_times d later) left) same ∙ over_now due later left p (none h))
  where
    kept : (due : Option ℕ) → option_map (λ n. n - 0) due ≡ due
    kept None = refl
    kept (Some n) = let e : n - 0 ≡ n = omega arith in ap Some e

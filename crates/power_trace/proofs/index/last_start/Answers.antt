use Rattle.std.proofs.Common.{◌≡◌, ℕ, zero, suc, ◌-◌, ◌<◌, ◌≤◌, List, length, get_or, Ok, Err, inl, inr, ap, arith}
use Rattle.std.proofs.lemmas.Bool.{cases_lt}
use Rattle.std.proofs.lemmas.List.Sorted.{searched}
use Rattle.power_trace.proofs.index.last_start.Goals as goal

rises : (xs : List ℕ) → ((i j : ℕ) → i < j → j < length xs → get_or xs i 0 < get_or xs j 0)
    → (i j : ℕ) → i ≤ j → j < length xs → get_or xs i 0 ≤ get_or xs j 0
rises xs p i j l h = elim (cases_lt i j) [
  | inl g ↦ omega (arith, p i j g h)
  | inr g ↦ (let e : i ≡ j = omega arith in omega (arith, ap (λ k. get_or xs k 0) e))
]

-- not every number is above the step, since the first is 0
not_first : (xs : List ℕ) (step after : ℕ) → 0 < length xs → get_or xs 0 0 ≡ 0
    → ((k : ℕ) → after ≤ k → k < length xs → step < get_or xs k 0) → 1 ≤ after
not_first xs step zero h e p = absurd (omega (arith, p 0 (omega arith) h))
not_first xs step (suc after) h e p = omega arith

pub overflow_sub-result : goal.overflow_sub-result
overflow_sub-result c =
    let xs = c.args.starts.now in
    let place = searched xs c.args.step (Err c.in-Err.after) c.in-Err.ensures.position (rises xs c.requires.rising) in
    not_first xs c.args.step c.in-Err.after c.requires.some c.requires.first place.2

pub returns-in-Ok-clause-high : goal.returns-in-Ok-clause-high
returns-in-Ok-clause-high c = λ k g h.
    let xs = c.args.starts.now in
    let place = searched xs c.args.step (Ok c.in-Ok.item) c.in-Ok.ensures.position (rises xs c.requires.rising) in
    omega (arith, c.requires.rising c.in-Ok.item k g h, place.1)

pub returns-in-Err-clause-low : goal.returns-in-Err-clause-low
returns-in-Err-clause-low c =
    let xs = c.args.starts.now in
    let place = searched xs c.args.step (Err c.in-Err.after) c.in-Err.ensures.position (rises xs c.requires.rising) in
    let first = not_first xs c.args.step c.in-Err.after c.requires.some c.requires.first place.2 in
    omega (arith, place.1 (c.in-Err.after - 1) (omega arith))

pub returns-in-Err-clause-high : goal.returns-in-Err-clause-high
returns-in-Err-clause-high c = λ k g h.
    let xs = c.args.starts.now in
    let place = searched xs c.args.step (Err c.in-Err.after) c.in-Err.ensures.position (rises xs c.requires.rising) in
    let first = not_first xs c.args.step c.in-Err.after c.requires.some c.requires.first place.2 in
    place.2 k (omega arith) h

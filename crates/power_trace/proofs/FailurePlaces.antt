-- The numbers of the failures among the events.
use Rattle.std.proofs.Common.{◌≡◌, ℕ, zero, suc, ◌+◌, ◌-◌, ◌<◌, ◌≤◌, nat_le, true, false, List, [], ◌∷◌, ◌++◌, drop, length, get_or, inl, inr, refl, ap, ◌∙◌, sym, subst, arith, append_assoc}
use Rattle.std.proofs.lemmas.List.{drop_more, drop_all, append-nil}
use Rattle.std.proofs.lemmas.Bool.{le-leb, cases_lt}
use Rattle.std.proofs.lemmas.Bool.Decides.{nat_tests}
use Rattle.power_trace.specs.Indexed.{failures_from}

pub none_on : (at left : ℕ) → failures_from at left [] ≡ []
unfolding failures_from
none_on at left = refl

pub ends : (at left on : ℕ) (on_times : List ℕ) → on ≤ left
    → failures_from at left (on ∷ on_times) ≡ (at + on) ∷ failures_from (at + on + 1) (left - on) on_times
unfolding failures_from
ends at left on on_times h =
    let e : nat_le on left ≡ true = le-leb on left h in
    rw e refl

pub ends_not : (at left on : ℕ) (on_times : List ℕ) → left < on → failures_from at left (on ∷ on_times) ≡ []
unfolding failures_from
ends_not at left on on_times h =
    let e : nat_le on left ≡ false = grind (arith, nat_tests) in
    rw e refl

-- one on-time more, in a list of on-times
pub failures_more : (failures on_times : List ℕ) (at left i on : ℕ) → i < length on_times → get_or on_times i 0 ≡ on → on ≤ left
    → failures ++ failures_from at left (drop i on_times)
    ≡ (failures ++ (at + on) ∷ []) ++ failures_from (at + on + 1) (left - on) (drop (i + 1) on_times)
failures_more failures on_times at left i on h e r =
    ap (λ xs. failures ++ failures_from at left xs) (drop_more on_times i 0 h ∙ ap (λ x. x ∷ drop (i + 1) on_times) e)
    ∙ ap (λ xs. failures ++ xs) (ends at left on (drop (i + 1) on_times) r)
    ∙ sym (append_assoc failures ((at + on) ∷ []) (failures_from (at + on + 1) (left - on) (drop (i + 1) on_times)))

pub failures_stop : (failures on_times : List ℕ) (at left i on : ℕ) → i < length on_times → get_or on_times i 0 ≡ on → left < on
    → failures ++ failures_from at left (drop i on_times) ≡ failures
failures_stop failures on_times at left i on h e r =
    ap (λ xs. failures ++ failures_from at left xs) (drop_more on_times i 0 h ∙ ap (λ x. x ∷ drop (i + 1) on_times) e)
    ∙ ap (λ xs. failures ++ xs) (ends_not at left on (drop (i + 1) on_times) r)
    ∙ append-nil failures

pub failures_all : (failures on_times : List ℕ) (at left i : ℕ) → length on_times ≤ i
    → failures ++ failures_from at left (drop i on_times) ≡ failures
failures_all failures on_times at left i h =
    ap (λ xs. failures ++ failures_from at left xs) (drop_all i on_times h)
    ∙ ap (λ xs. failures ++ xs) (none_on at left)
    ∙ append-nil failures

pub few : (on_times : List ℕ) (at left : ℕ) → length (failures_from at left on_times) ≤ length on_times
few [] at left = omega (arith, ap length (none_on at left))
few (on ∷ on_times) at left = elim (cases_lt left on) [
  | inl h ↦ omega (arith, ap length (ends_not at left on on_times h))
  | inr h ↦ omega (arith, ap length (ends at left on on_times h), few on_times (at + on + 1) (left - on))
]

-- each number of a list is at least this one
abbrev pub AreFrom : ℕ → List ℕ → Type 0
AreFrom at xs = (k : ℕ) → k < length xs → at ≤ get_or xs k 0

pub AreFrom-cons : (at x : ℕ) (xs : List ℕ) → at ≤ x → AreFrom (x + 1) xs → AreFrom at (x ∷ xs)
AreFrom-cons at x xs p q zero h = p
AreFrom-cons at x xs p q (suc k) h = omega (arith, q k (omega arith))

-- no failure has a number below the first
pub failures-AreFrom : (on_times : List ℕ) (at left : ℕ) → AreFrom at (failures_from at left on_times)
failures-AreFrom [] at left = λ k h. absurd (omega (arith, ap length (none_on at left)))
failures-AreFrom (on ∷ on_times) at left = elim (cases_lt left on) [
  | inl g ↦ (λ k h. absurd (omega (arith, ap length (ends_not at left on on_times g))))
  | inr g ↦ subst (AreFrom at) (sym (ends at left on on_times g))
      (AreFrom-cons at (at + on) (failures_from (at + on + 1) (left - on) on_times) (omega arith) (failures-AreFrom on_times (at + on + 1) (left - on)))
]

-- the numbers of a list rise
abbrev pub Rises : List ℕ → Type 0
Rises xs = (i j : ℕ) → i ≤ j → j < length xs → get_or xs i 0 ≤ get_or xs j 0

pub Rises-cons : (x : ℕ) (xs : List ℕ) → AreFrom (x + 1) xs → Rises xs → Rises (x ∷ xs)
Rises-cons x xs p q zero zero l h = omega arith
Rises-cons x xs p q zero (suc j) l h = omega (arith, p j (omega arith))
Rises-cons x xs p q (suc i) zero l h = absurd (omega arith)
Rises-cons x xs p q (suc i) (suc j) l h = q i j (omega arith) (omega arith)

pub failures-Rises : (on_times : List ℕ) (at left : ℕ) → Rises (failures_from at left on_times)
failures-Rises [] at left = λ i j l h. absurd (omega (arith, ap length (none_on at left)))
failures-Rises (on ∷ on_times) at left = elim (cases_lt left on) [
  | inl g ↦ (λ i j l h. absurd (omega (arith, ap length (ends_not at left on on_times g))))
  | inr g ↦ subst Rises (sym (ends at left on on_times g))
      (Rises-cons (at + on) (failures_from (at + on + 1) (left - on) on_times)
      (failures-AreFrom on_times (at + on + 1) (left - on))
      (failures-Rises on_times (at + on + 1) (left - on)))
]

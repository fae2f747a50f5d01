-- What tests on numbers say.
use Rattle.std.proofs.Common.{◌≡◌, ℕ, zero, suc, ◌<◌, ◌≤◌, true, false, not, eqb, ⊎_elim, arith, ap, sym, ◌∙◌, subst}
use Rattle.std.proofs.lemmas.Bool.{cases_eq, eq-eqb, ne_eqb}

pub from-not_eq : (a b : ℕ) → not (eqb a b) ≡ false → a ≡ b
from-not_eq a b h = ⊎_elim (λ e. e) (λ n. let f : true ≡ false = sym (ap not (ne_eqb a b n)) ∙ h in cc f) (cases_eq a b)

pub not_eq-false : (a b : ℕ) → a ≡ b → not (eqb a b) ≡ false
not_eq-false a b e = ap not (eq-eqb a b e)

-- one of the first nine
pub nine : (P : ℕ → Type 0) → P 0 → P 1 → P 2 → P 3 → P 4 → P 5 → P 6 → P 7 → P 8 → (i : ℕ) → i < 9 → P i
nine P a b c d e f g h j zero l = a
nine P a b c d e f g h j (suc zero) l = b
nine P a b c d e f g h j (suc (suc zero)) l = c
nine P a b c d e f g h j (suc (suc (suc zero))) l = d
nine P a b c d e f g h j (suc (suc (suc (suc zero)))) l = e
nine P a b c d e f g h j (suc (suc (suc (suc (suc zero))))) l = f
nine P a b c d e f g h j (suc (suc (suc (suc (suc (suc zero)))))) l = g
nine P a b c d e f g h j (suc (suc (suc (suc (suc (suc (suc zero))))))) l = h
nine P a b c d e f g h j (suc (suc (suc (suc (suc (suc (suc (suc zero)))))))) l = j
nine P a b c d e f g h j (suc (suc (suc (suc (suc (suc (suc (suc (suc i))))))))) l = absurd (omega arith)

-- one of the five words of the last finish
pub five : (P : ℕ → Type 0) → P 3 → P 4 → P 5 → P 6 → P 7 → (i : ℕ) → 3 ≤ i → i < 8 → P i
five P a b c d e i l m = ⊎_elim (λ f. subst P f a) (λ f. ⊎_elim (λ g. subst P g b) (λ g. ⊎_elim (λ j. subst P j c) (λ j. ⊎_elim (λ k. subst P k d) (λ k. let n : 7 ≡ i = omega arith in subst P n e) (cases_eq 6 i)) (cases_eq 5 i)) (cases_eq 4 i)) (cases_eq 3 i)

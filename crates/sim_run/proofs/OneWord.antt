-- One word alone.
use Rattle.std.proofs.Common.{◌≡◌, ◌↔◌, ℕ, ◌<◌, ◌≤◌, Bool, true, false, IsTrue, nat_eq, List, [], ◌∷◌, length, get_or, refl, ap, sym, arith}
use Rattle.std.proofs.lemmas.Bool.{false≢true}
use Rattle.std.specs.Cmp.Lexicographic.{pointwise, same_text, other_text}

pub alone : {A : Type 0} (words : List A) (w : A) → 1 ≤ length words → length words < 2 → w ≡ get_or words 0 w → words ≡ w ∷ []
alone [] w h l e = absurd (omega arith)
alone (x ∷ []) w h l e = ap (λ y. y ∷ []) (sym e)
alone (x ∷ y ∷ ys) w h l e = absurd (omega arith)

pub head_is : {A : Type 0} (x y : A) → x ∷ [] ≡ y ∷ [] → x ≡ y
head_is x y e = cc

-- what a test of two texts tells
pub tells_same : (b : Bool) (xs ys : List ℕ) → b ≡ pointwise nat_eq xs ys → IsTrue b ↔ (xs ≡ ys)
tells_same true xs ys e = (λ h. same_text xs ys e, λ h. refl)
tells_same false xs ys e = (λ h. absurd (false≢true h), λ h. absurd (other_text xs ys e h))

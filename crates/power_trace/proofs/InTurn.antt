-- What is left of steps after the next one.
use Rattle.std.proofs.Common.{◌≡◌, ℕ, zero, suc, ◌-◌, ◌%◌, List, [], ◌∷◌, ◌++◌, map, refl, ap, ◌∙◌, sym, arith}
use Rattle.rand_pcg.specs.Lcg.{Lcg}
use Rattle.rand_pcg.specs.Pcg.{pcg32}
use Rattle.schedule_model.specs.CoreSteps.{repeated, words, core_of_word}

pub no_times : (xs : List ℕ) → repeated 0 xs ≡ []
unfolding repeated
no_times xs = refl

pub of_nothing : (times : ℕ) → repeated times [] ≡ []
unfolding repeated
of_nothing zero = refl
of_nothing (suc times) = of_nothing times

pub pass_goes_on : (rest order : List ℕ) (times core : ℕ) (later : List ℕ) → rest ≡ core ∷ later
    → rest ++ repeated times order ≡ core ∷ (later ++ repeated times order)
pass_goes_on rest order times core later h = ap (λ r. r ++ repeated times order) h

pub pass_begins : (rest order : List ℕ) (times core : ℕ) (later : List ℕ) → rest ≡ [] → (times ≡ 0 → ⊥) → order ≡ core ∷ later
    → rest ++ repeated times order ≡ core ∷ (later ++ repeated (times - 1) order)
unfolding repeated
pass_begins rest order zero core later h p e = absurd (p refl)
pass_begins rest order (suc times) core later h p e =
    let one : suc times - 1 ≡ times = omega arith in
    ap (λ r. r ++ repeated (suc times) order) h
    ∙ ap (λ r. r ++ repeated times order) e
    ∙ ap (λ n. core ∷ (later ++ repeated n order)) (sym one)

pub passes_are_over : (rest order : List ℕ) (times : ℕ) → rest ≡ [] → times ≡ 0 → rest ++ repeated times order ≡ []
passes_are_over rest order times h e =
    ap (λ r. r ++ repeated times order) h ∙ ap (λ n. repeated n order) e ∙ no_times order

pub passes_are_empty : (rest order : List ℕ) (times : ℕ) → rest ≡ [] → order ≡ [] → rest ++ repeated times order ≡ []
passes_are_empty rest order times h e =
    ap (λ r. r ++ repeated times order) h ∙ ap (λ o. repeated times o) e ∙ of_nothing times

pub draw_is_over : (cores count : ℕ) (g : Lcg) → count ≡ 0 → map (core_of_word cores) (words count g) ≡ []
unfolding words
draw_is_over cores count g h = ap (λ n. map (core_of_word cores) (words n g)) h

pub draw_goes_on : (cores count word : ℕ) (g g' : Lcg) → (count ≡ 0 → ⊥)
    → (let p : ℕ × Lcg = (word, g') in p ≡ pcg32 g)
    → map (core_of_word cores) (words count g) ≡ (word % cores) ∷ map (core_of_word cores) (words (count - 1) g')
unfolding words
draw_goes_on cores zero word g g' p h = absurd (p refl)
draw_goes_on cores (suc count) word g g' p h =
    let one : suc count - 1 ≡ count = omega arith in
    ap (λ q. (q.0 % cores) ∷ map (core_of_word cores) (words count q.1)) (sym h)
    ∙ ap (λ n. (word % cores) ∷ map (core_of_word cores) (words n g')) (sym one)

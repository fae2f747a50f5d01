-- The words of an object, one after another.
use Rattle.std.proofs.Common.{◌≡◌, ℕ, suc, ◌-◌, ◌+◌, ◌<◌, List, [], ◌∷◌, ◌++◌, codes, Option, Some, None, option_map, append_assoc, refl, sym, ap, ◌∙◌, arith}
use Rattle.std.specs.Option.{option_and_then}
use Rattle.set_model.specs.Sets.{TaskSet}
use Rattle.report.specs.Fields.{field_in, number_of, values_in, nothing_in}
use Rattle.report.specs.LineReading.{words_shape}

one_left : (n k : ℕ) → k < n → n - k ≡ suc (n - (k + 1))
one_left n k lt = omega arith

joined : (done : List ℕ) (w : ℕ) (o : Option (List ℕ)) → option_map (λ more. (done ++ w ∷ []) ++ more) o ≡ option_map (λ more. done ++ more) (option_map (λ more. w ∷ more) o)
joined done w None = refl
joined done w (Some more) = ap Some (append_assoc done (w ∷ []) more)

taken : (set : TaskSet) (n m : ℕ) (done : List ℕ) (w : ℕ) (rest left : List ℕ) → n ≡ suc m → field_in number_of (codes " ") rest ≡ Some (w, left)
    → option_map (λ more. (done ++ w ∷ []) ++ more) (values_in set (words_shape m) left) ≡ option_map (λ more. done ++ more) (values_in set (words_shape n) rest)
taken set n m done w rest left e f = joined done w (values_in set (words_shape m) left)
    ∙ ap (option_map (λ more. done ++ more)) (sym (ap (option_and_then (λ (p : ℕ × List ℕ). option_map (λ values. p.0 ∷ values) (values_in set (words_shape m) p.1))) f) ∙ ap (λ k. values_in set (words_shape k) rest) (sym e))

-- one word more
pub word_taken : (set : TaskSet) (n k : ℕ) (done : List ℕ) (w : ℕ) (rest left : List ℕ) (whole : Option (List ℕ)) → k < n → Some (w, left) ≡ field_in number_of (codes " ") rest
    → option_map (λ more. done ++ more) (values_in set (words_shape (n - k)) rest) ≡ whole
    → option_map (λ more. (done ++ w ∷ []) ++ more) (values_in set (words_shape (n - (k + 1))) left) ≡ whole
word_taken set n k done w rest left whole lt f e = taken set (n - k) (n - (k + 1)) done w rest left (one_left n k lt) (sym f) ∙ e

-- none where one is wanted
pub no_word : (set : TaskSet) (n k : ℕ) (done rest : List ℕ) (whole : Option (List ℕ)) → k < n → None ≡ field_in number_of (codes " ") rest
    → option_map (λ more. done ++ more) (values_in set (words_shape (n - k)) rest) ≡ whole → None ≡ whole
no_word set n k done rest whole lt f e =
    sym (ap (λ m. option_map (λ more. done ++ more) (values_in set (words_shape m) rest)) (one_left n k lt)
    ∙ ap (λ o. option_map (λ more. done ++ more) (option_and_then (λ (p : ℕ × List ℕ). option_map (λ values. p.0 ∷ values) (values_in set (words_shape (n - (k + 1))) p.1)) o)) (sym f)) ∙ e

-- all are there
pub all_taken : (set : TaskSet) (n k : ℕ) (done : List ℕ) (rest : List ℕ) (whole : Option (List ℕ)) → n ≡ k → option_map (λ more. done ++ more) (values_in set (words_shape (n - k)) rest) ≡ whole → option_map (λ more. done ++ more) (nothing_in rest) ≡ whole
all_taken set n k done rest whole e f = let none : n - k ≡ 0 = omega arith in sym (ap (λ m. option_map (λ more. done ++ more) (values_in set (words_shape m) rest)) none) ∙ f

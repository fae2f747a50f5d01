-- Numbers that were written are read back, and a word that is read as a number is as that number is written.
use Rattle.std.proofs.Common.{◌≡◌, ℕ, ◌-◌, ◌<◌, ◌≤◌, ◌^◌, ◌&&◌, ◌||◌, Bool, true, false, not, cond, List, [], ◌∷◌, length, get_or, Option, Some, None, Ok, Err, true≢false, refl, sym, ap, ◌∙◌, ltb, leb, eqb, arith, inl, inr, lit<}
use Rattle.std.specs.List.{list_all}
use Rattle.std.specs.Char.{digit_value}
use Rattle.std.specs.Fmt.{decimal}
use Rattle.std.specs.Str.Parse.{digits_value, AllDigits}
use Rattle.std.proofs.lemmas.Bool.{lt-ltb, ne_eqb, le-ltb, le-leb, ltb-false, eqb-false, not-true, and_parts, and_cases, or_parts, cases_Bool, cases_lt, eq-eqb}
use Rattle.std.proofs.lemmas.Option.{none-some, same_Some}
use Rattle.std.proofs.lemmas.Fmt.{decimal_is_IsNumeral, length-decimal-le, first_decimal, decimal-digits_value, decimal_digit}
use Rattle.std.proofs.lemmas.Str.Parse.{IsNumeralModel}
use Rattle.plain_text.proofs.ForCallers.{all_digits}
use Rattle.plain_text.specs.declared.numbers.NumberFault.TheVariants.{Range}
use Rattle.plain_text.specs.Numbers.{value_in, is_numeral, within}
use Rattle.report.specs.Fields.{has_leading_zero, if_ok, number_of}

-- ---- what is written is read back

digits_test : (ds : List ℕ) → AllDigits 10 ds → list_all (λ d. ltb (digit_value d) 10) ds ≡ true
digits_test [] all = refl
digits_test (d ∷ ds) all = let one : ltb (digit_value d) 10 ≡ true = lt-ltb _ _ all.0 in rw (one, digits_test ds all.1) refl

value_is : (n : ℕ) (ds : List ℕ) → 0 < length ds → length ds ≤ 10 → AllDigits 10 ds → digits_value 10 ds ≡ n → value_in 10 10 ds ≡ Some n
value_is n ds some few digits value =
    let not_none : eqb (length ds) 0 ≡ false = ne_eqb _ _ (omega arith) in
    let short : leb (length ds) 10 ≡ true = le-leb _ _ few in
    rw (not_none, short, digits_test ds digits, value) refl

value_back : (n : ℕ) → n < 2 ^ 32 → value_in 10 10 (decimal n) ≡ Some n
value_back n small =
    let so = decimal_is_IsNumeral n (omega arith) in
    let few = length-decimal-le 10 n (omega arith) (omega arith) (omega arith) in
    value_is n (decimal n) so.0.0 few so.0.1 so.1

no_zero_first : (ds : List ℕ) → 48 < get_or ds 0 0 → has_leading_zero ds ≡ false
no_zero_first ds h = let e : eqb (get_or ds 0 0) 48 ≡ false = ne_eqb _ _ (omega arith) in elim (cases_Bool (ltb 1 (length ds))) [
  | inl t ↦ rw (t, e) refl
  | inr f ↦ rw (f) refl
]

no_leading_zero : (n : ℕ) → n < 2 ^ 32 → has_leading_zero (decimal n) ≡ false
no_leading_zero n small = elim (cases_lt 0 n) [
  | inl some ↦ no_zero_first (decimal n) (first_decimal n some (omega arith))
  | inr none ↦ let zero : n ≡ 0 = omega arith in let text : decimal 0 ≡ 48 ∷ [] = decimal_digit 0 (lit< tt) in rw (zero, text) refl
]

pub number_back : (n : ℕ) → n < 2 ^ 32 → number_of (decimal n) ≡ Some n
number_back n small =
    let not_low : ltb n 0 ≡ false = le-ltb _ _ (omega arith) in
    let not_high : ltb (2 ^ 32 - 1) n ≡ false = le-ltb _ _ (omega arith) in
    rw (no_leading_zero n small, value_back n small, not_low, not_high) refl

-- ---- what is read is as it is written

own_digits : IsNumeralModel (AllDigits 10) (digits_value 10)
own_digits = record { to = λ ds h. h; from = λ ds h. h; same = λ ds h. refl }

within_means : (v n : ℕ) → if_ok (within 0 (2 ^ 32 - 1) (Some v)) ≡ Some n → (v ≡ n) × (v < 2 ^ 32)
within_means v n e = go (ltb v 0 || ltb (2 ^ 32 - 1) v) refl e
  where
    go : (out : Bool) → (ltb v 0 || ltb (2 ^ 32 - 1) v) ≡ out → if_ok (cond out (Err Range) (Ok v)) ≡ Some n → (v ≡ n) × (v < 2 ^ 32)
    go true t f = absurd (none-some n f)
    go false t f = (same_Some v n f, omega (arith, ltb-false (2 ^ 32 - 1) v (or_parts (ltb v 0) (ltb (2 ^ 32 - 1) v) t).1))

value_means : (b : Bool) (v n : ℕ) → if_ok (within 0 (2 ^ 32 - 1) (cond b (Some v) None)) ≡ Some n → (b ≡ true) × (v ≡ n) × (v < 2 ^ 32)
value_means true v n e = let h = within_means v n e in (refl, h.0, h.1)
value_means false v n e = absurd (none-some n e)

word_means : (zero : Bool) (told : Option ℕ) (n : ℕ) → cond zero None told ≡ Some n → (zero ≡ false) × (told ≡ Some n)
word_means true told n e = absurd (none-some n e)
word_means false told n e = (refl, e)

no_zero : (l b : ℕ) → (ltb 1 l && eqb b 48) ≡ false → 0 < l → b ≡ 48 → l ≡ 1
no_zero l b e some is = elim (and_cases (ltb 1 l) (eqb b 48) e) [
  | inl f ↦ omega (arith, ltb-false 1 l f)
  | inr f ↦ absurd (true≢false (sym (eq-eqb b 48 is) ∙ f))
]

pub number_means : (word : List ℕ) (n : ℕ) → number_of word ≡ Some n → (decimal n ≡ word) × (n < 2 ^ 32)
number_means word n e =
    let plain = word_means (has_leading_zero word) (if_ok (within 0 (2 ^ 32 - 1) (value_in 10 10 word))) n e in
    let value = value_means (is_numeral 10 10 word) (digits_value 10 word) n plain.1 in
    let tests = and_parts (not (eqb (length word) 0) && leb (length word) 10) (list_all (λ d. ltb (digit_value d) 10) word) value.0 in
    let size = and_parts (not (eqb (length word) 0)) (leb (length word) 10) tests.0 in
    let some : 0 < length word = omega (arith, eqb-false (length word) 0 (not-true (eqb (length word) 0) size.0)) in
    let whole = decimal-digits_value own_digits word (all_digits 10 word tests.1) some (no_zero (length word) (get_or word 0 0) plain.0 some) (omega (arith, value.2)) in
    (ap decimal (sym value.1) ∙ whole, omega (arith, value.1, value.2))

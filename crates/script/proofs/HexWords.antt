-- Words of 8 hexadecimal digits are words of 32 bits.
use Rattle.std.proofs.Common.{◌≡◌, ℕ, ◌^◌, ◌<◌, Bool, true, false, cond, List, ◌&&◌, not, length, Some, None, ltb, leb, eqb, refl, subst}
use Rattle.std.specs.List.{list_all}
use Rattle.std.specs.Char.{digit_value}
use Rattle.std.specs.Str.Parse.{digits_value}
use Rattle.std.proofs.lemmas.Bool.{and_parts}
use Rattle.std.proofs.lemmas.Int.Digits.{digits_value-lt}
use Rattle.plain_text.specs.Numbers.{is_numeral, value_in}
use Rattle.plain_text.proofs.ForCallers.{all_digits}

some_test : (b : Bool) (m n : ℕ) → cond b (Some m) None ≡ Some n → (b ≡ true) × (m ≡ n)
some_test true m n e = (refl, cc)
some_test false m n e = absurd cc

digits_small : (word : List ℕ) (n : ℕ) → length word ≡ 8 → value_in 16 8 word ≡ Some n → n < 2 ^ 32
digits_small word n l e =
    let t = some_test (is_numeral 16 8 word) (digits_value 16 word) n e in
    let p = and_parts (not (eqb (length word) 0) && leb (length word) 8) (list_all (λ d. ltb (digit_value d) 16) word) t.0 in
    let lt : digits_value 16 word < 16 ^ length word = digits_value-lt 16 word (all_digits 16 word p.1) in
    let q : digits_value 16 word < 16 ^ 8 = subst (λ (k : ℕ). digits_value 16 word < 16 ^ k) l lt in
    let q' : digits_value 16 word < 2 ^ 32 = q in
    subst (λ (k : ℕ). k < 2 ^ 32) t.1 q'

pub hex_word_small : (word : List ℕ) (n : ℕ) → length word ≡ 8 → value_in 16 8 word ≡ Some n → n < 2 ^ 32
hex_word_small word n l e = digits_small word n l e

-- A number as its digits are read.
use Rattle.std.proofs.Common.{◌≡◌, ℕ, ◌+◌, ◌*◌, ◌^◌, ◌≤◌, ◌<◌, true, List, [], ◌∷◌, ◌&&◌, not, length, get_or, take, ltb, leb, eqb, sym, lit<, arith}
use Rattle.std.specs.List.{list_all}
use Rattle.std.specs.Char.{digit_value}
use Rattle.std.specs.Str.Parse.{AllDigits, digits_value}
use Rattle.std.proofs.Math.Nat.{pow-le-pow_left, pow-le-pow_right}
use Rattle.std.proofs.lemmas.Bool.{ltb-true, leb-true, and_parts}
use Rattle.std.proofs.lemmas.Int.Digits.{digits_value-lt, digits_value_more}
use Rattle.std.proofs.lemmas.Str.Parse.{digits_value-take-le}
use Rattle.plain_text.specs.Numbers.{is_numeral}

pub all_digits : (radix : ℕ) (ds : List ℕ) → list_all (λ d. ltb (digit_value d) radix) ds ≡ true → AllDigits radix ds
all_digits radix [] e = tt
all_digits radix (d ∷ ds) e =
    let p = and_parts (ltb (digit_value d) radix) (list_all (λ d. ltb (digit_value d) radix) ds) e in
    (ltb-true _ _ p.0, all_digits radix ds p.1)

some_digit : (radix i : ℕ) (ds : List ℕ) → AllDigits radix ds → i < length ds → 1 ≤ radix
some_digit radix i [] h lt = absurd (omega arith)
some_digit radix i (d ∷ ds) h lt = omega (arith, h.0)

-- one more digit, and that the number is small
pub digit_more : (radix most i : ℕ) (ds : List ℕ) → is_numeral radix most ds ≡ true → radix ≤ 16 → most ≤ 15 → i < length ds
    → (digits_value radix (take i ds) * radix + digit_value (get_or ds i 0) ≡ digits_value radix (take (i + 1) ds)) × (digits_value radix (take (i + 1) ds) < 16 ^ 15)
digit_more radix most i ds e low short lt =
    let p = and_parts (not (eqb (length ds) 0) && leb (length ds) most) (list_all (λ d. ltb (digit_value d) radix) ds) e in
    let q = and_parts (not (eqb (length ds) 0)) (leb (length ds) most) p.0 in
    let digits = all_digits radix ds p.1 in
    let one = digits_value_more radix ds i lt in
    let up = digits_value-take-le radix ds (i + 1) (some_digit radix i ds digits lt) in
    let len : length ds ≤ 15 = omega (arith, leb-true (length ds) most q.1) in
    let power : radix ^ length ds ≤ 16 ^ length ds = pow-le-pow_left low (length ds) in
    let longer : 16 ^ length ds ≤ 16 ^ 15 = pow-le-pow_right (lit< tt) len in
    (sym one, omega (arith, up, digits_value-lt radix ds digits, power, longer))

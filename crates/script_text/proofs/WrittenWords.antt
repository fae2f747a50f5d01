-- Numbers and names that were written as words are read back.
use Rattle.std.proofs.Common.{◌≡◌, ℕ, ◌-◌, ◌<◌, ◌≤◌, ◌^◌, true, false, List, [], ◌∷◌, length, map, Some, Ok, refl, ltb, leb, eqb, arith, inl, inr}
use Rattle.std.specs.List.{list_all, AllByRecursion}
use Rattle.std.specs.Char.{digit_value}
use Rattle.std.specs.Fmt.{decimal}
use Rattle.std.specs.Str.Parse.{digits_value, AllDigits}
use Rattle.std.proofs.lemmas.Bool.{lt-ltb, ne_eqb, le-ltb, le-leb, and_parts, and_from, cases_Bool}
use Rattle.std.proofs.lemmas.Bool.Decides.{nat_tests}
use Rattle.std.proofs.lemmas.Fmt.{decimal_is_IsNumeral, length-decimal-le}
use Rattle.std.proofs.lemmas.List.Sums.{list_all-from_AllPass}
use Rattle.std.proofs.lemmas.Str.Parse.{digit_from_value}
use Rattle.plain_text.specs.Numbers.{value_in}
use Rattle.set_model.specs.Names.{IsName, is_name_byte}
use Rattle.script.specs.Results.{each}
use Rattle.script.specs.Words.{number, value}
use Rattle.script_text.proofs.WrittenLines.{is_word_byte, word_byte_from, IsWritten}

-- ---- decimal numbers

digits_test : (ds : List ℕ) → AllDigits 10 ds → list_all (λ d. ltb (digit_value d) 10) ds ≡ true
digits_test [] all = refl
digits_test (d ∷ ds) all = let one : ltb (digit_value d) 10 ≡ true = lt-ltb _ _ all.0 in rw (one, digits_test ds all.1) refl

digit_bytes : (ds : List ℕ) → AllDigits 10 ds → list_all is_word_byte ds ≡ true
digit_bytes [] all = refl
digit_bytes (d ∷ ds) all =
    let range = digit_from_value d all.0 in
    and_from (is_word_byte d) (list_all is_word_byte ds) (word_byte_from d (omega arith) (omega arith)) (digit_bytes ds all.1)

pub record IsDecimal (n : ℕ) (ds : List ℕ) : Type 0 where
  pub some : 0 < length ds
  pub digits : AllDigits 10 ds
  pub few : length ds ≤ 10
  pub read : value_in 10 10 ds ≡ Some n

value_is : (n : ℕ) (ds : List ℕ) → 0 < length ds → length ds ≤ 10 → AllDigits 10 ds → digits_value 10 ds ≡ n → value_in 10 10 ds ≡ Some n
value_is n ds some few digits value =
    let not_none : eqb (length ds) 0 ≡ false = ne_eqb _ _ (omega arith) in
    let short : leb (length ds) 10 ≡ true = le-leb _ _ few in
    rw (not_none, short, digits_test ds digits, value) refl

pub decimal_is : (n : ℕ) → n < 2 ^ 32 → IsDecimal n (decimal n)
decimal_is n small =
    let so = decimal_is_IsNumeral n (omega arith) in
    let few = length-decimal-le 10 n (omega arith) (omega arith) (omega arith) in
    record { some = so.0.0; digits = so.0.1; few = few; read = value_is n (decimal n) so.0.0 few so.0.1 so.1 }

pub decimal_written : (n : ℕ) → n < 2 ^ 32 → IsWritten (decimal n)
decimal_written n small = let so = decimal_is n small in record { bytes = digit_bytes (decimal n) so.digits; some = so.some }

pub decimals_written : (ns : List ℕ) → AllByRecursion (λ n. n < 2 ^ 32) ns → AllByRecursion IsWritten (map decimal ns)
decimals_written [] all = tt
decimals_written (n ∷ ns) all = (decimal_written n all.0, decimals_written ns all.1)

pub number_back : (low high n : ℕ) → low ≤ n → n ≤ high → n < 2 ^ 32 → number low high (decimal n) ≡ Ok n
number_back low high n above below small =
    let not_low : ltb n low ≡ false = le-ltb _ _ above in
    let not_high : ltb high n ≡ false = le-ltb _ _ below in
    rw ((decimal_is n small).read, not_low, not_high) refl

value_of_digits : (n : ℕ) (ds : List ℕ) → n < 2 ^ 32 → IsDecimal n ds → value ds ≡ Ok n
value_of_digits n [] small so = let some = so.some in absurd (omega arith)
value_of_digits n (a ∷ []) small so =
    let not_low : ltb n 0 ≡ false = le-ltb _ _ (omega arith) in
    let not_high : ltb (2 ^ 32 - 1) n ≡ false = le-ltb _ _ (omega arith) in
    rw (so.read, not_low, not_high) refl
value_of_digits n (a ∷ b ∷ ds) small so =
    let first = digit_from_value a so.digits.0 in
    let second = digit_from_value b so.digits.1.0 in
    let no_minus : eqb a 45 ≡ false = ne_eqb _ _ (omega arith) in
    let no_x : eqb b 120 ≡ false = ne_eqb _ _ (omega arith) in
    let not_low : ltb n 0 ≡ false = le-ltb _ _ (omega arith) in
    let not_high : ltb (2 ^ 32 - 1) n ≡ false = le-ltb _ _ (omega arith) in
    elim (cases_Bool (eqb a 48)) [
      | inl t ↦ rw (no_minus, t, no_x, so.read, not_low, not_high) refl
      | inr f ↦ rw (no_minus, f, so.read, not_low, not_high) refl
    ]

pub value_back : (n : ℕ) → n < 2 ^ 32 → value (decimal n) ≡ Ok n
value_back n small = value_of_digits n (decimal n) small (decimal_is n small)

pub values_back : (ns : List ℕ) → AllByRecursion (λ n. n < 2 ^ 32) ns → each value (map decimal ns) ≡ Ok ns
values_back [] all = refl
values_back (n ∷ ns) all = rw (value_back n all.0, values_back ns all.1) refl

-- ---- names

name_byte_is_word_byte : (b : ℕ) → is_name_byte b ≡ true → is_word_byte b ≡ true
name_byte_is_word_byte b h = grind (arith, nat_tests)

name_bytes : (name : List ℕ) → list_all is_name_byte name ≡ true → list_all is_word_byte name ≡ true
name_bytes [] e = refl
name_bytes (b ∷ name) e =
    let h = and_parts (is_name_byte b) (list_all is_name_byte name) e in
    and_from (is_word_byte b) (list_all is_word_byte name) (name_byte_is_word_byte b h.0) (name_bytes name h.1)

pub name_written : (name : List ℕ) → IsName name → IsWritten name
name_written name h = record {
  bytes = name_bytes name (list_all-from_AllPass is_name_byte name h.bytes);
  some = let size = h.size.0 in omega arith;
}

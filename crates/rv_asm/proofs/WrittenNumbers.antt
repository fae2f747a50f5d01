-- Numbers that were written are read back.
use Rattle.std.proofs.Common.{◌≡◌, ℕ, zero, suc, ◌+◌, ◌*◌, ◌<◌, ◌%◌, ◌^◌, ◌/◌, ◌&&◌, Bool, true, false, ℤ, pos, negsuc, List, [], ◌∷◌, length, Some, option_map, min, refl, sym, ap, ◌∙◌, ltb, leb, eqb, inl, inr, arith, length-append, lit<}
use Rattle.std.specs.List.{list_all}
use Rattle.std.specs.Char.{digit_value, digit_char}
use Rattle.std.specs.Fmt.{decimal, signed_decimal}
use Rattle.std.specs.Str.Parse.{digits_value, AllDigits}
use Rattle.std.proofs.Math.Arith.{mod-mul}
use Rattle.std.proofs.Math.Nat.{one-le-pow, pow-suc}
use Rattle.std.proofs.lemmas.Bool.{ltb-true, lt-ltb, le-leb, ne_eqb, cases_Bool, and_parts}
use Rattle.std.proofs.lemmas.Fmt.{decimal_is_IsNumeral}
use Rattle.std.proofs.lemmas.Int.Digits.{digits_value_push}
use Rattle.std.proofs.lemmas.List.Folds.{list_all-append}
use Rattle.std.proofs.lemmas.Str.{digit_value-digit_char}
use Rattle.std.proofs.lemmas.Str.Parse.{digit_from_value}
use Rattle.std.specs.Int.{is_in_range}
use Rattle.plain_text.specs.Names.{is_name, is_name_byte}
use Rattle.rv_isa.specs.Texts.{hexadecimal}
use Rattle.rv_asm.specs.Numbers.{numeral, number_of, minus, is_word}
use Rattle.rv_asm.specs.Operands as operands
use Rattle.rv_asm.specs.Operands.{target_of}
use Rattle.rv_asm.proofs.Tokens.{is_inner, is_token}

-- a number of 32 bits, with a sign or without
abbrev pub IsShort : ℤ → Type 0
IsShort (pos n) = n < 2 ^ 32
IsShort (negsuc n) = n < 2 ^ 31

pub short_word : (z : ℤ) → IsShort z → is_word z ≡ true
short_word (pos n) small = le-leb _ _ (omega arith)
short_word (negsuc n) small = lt-ltb _ _ (omega arith)

-- ---- decimal digits

abbrev is_figure : ℕ → Bool
is_figure b = ltb 47 b && ltb b 58

figure_range : (b : ℕ) → is_figure b ≡ true → (47 < b) × (b < 58)
figure_range b h = let p = and_parts (ltb 47 b) (ltb b 58) h in (ltb-true 47 b p.0, ltb-true b 58 p.1)

figures_of : (ds : List ℕ) → AllDigits 10 ds → list_all is_figure ds ≡ true
figures_of [] all = refl
figures_of (d ∷ ds) all =
    let range = digit_from_value d all.0 in
    let low : ltb 47 d ≡ true = lt-ltb _ _ (omega arith) in
    let high : ltb d 58 ≡ true = lt-ltb _ _ (omega arith) in
    rw (low, high, figures_of ds all.1) refl

tests_of : (radix : ℕ) (ds : List ℕ) → AllDigits radix ds → list_all (λ d. ltb (digit_value d) radix) ds ≡ true
tests_of radix [] all = refl
tests_of radix (d ∷ ds) all = let one : ltb (digit_value d) radix ≡ true = lt-ltb _ _ all.0 in rw (one, tests_of radix ds all.1) refl

-- what decimal digits of a number have
record IsDecimal (n : ℕ) (ds : List ℕ) : Type 0 where
  some : 0 < length ds
  figures : list_all is_figure ds ≡ true
  read : numeral 10 ds ≡ Some n

numeral_is : (radix n : ℕ) (ds : List ℕ) → 0 < length ds → list_all (λ d. ltb (digit_value d) radix) ds ≡ true → digits_value radix ds ≡ n → n < 2 ^ 33 → numeral radix ds ≡ Some n
numeral_is radix n ds some digits value small =
    let not_none : eqb (length ds) 0 ≡ false = ne_eqb _ _ (omega arith) in
    let few : leb (length ds) (length ds) ≡ true = le-leb _ _ (omega arith) in
    let least : min (2 ^ 33) n ≡ n = omega arith in
    rw (not_none, few, digits, value, least) refl

decimal_is : (n : ℕ) → n < 2 ^ 33 → IsDecimal n (decimal n)
decimal_is n small =
    let so = decimal_is_IsNumeral n (omega arith) in
    record {
      some = so.0.0;
      figures = figures_of (decimal n) so.0.1;
      read = numeral_is 10 n (decimal n) so.0.0 (tests_of 10 (decimal n) so.0.1) so.1 small;
    }

-- digits alone are read as a number without a sign
plain_number : (n : ℕ) (ds : List ℕ) → IsDecimal n ds → number_of ds ≡ Some (pos n)
plain_number n [] so = let some : 0 < 0 = so.some in absurd (omega arith)
plain_number n (a ∷ []) so = ap (option_map pos) so.read
plain_number n (a ∷ b ∷ ds) so =
    let h = and_parts (is_figure a) (list_all is_figure (b ∷ ds)) so.figures in
    let first = figure_range a h.0 in
    let second = figure_range b (and_parts (is_figure b) (list_all is_figure ds) h.1).0 in
    let no_minus : eqb a 45 ≡ false = ne_eqb _ _ (omega arith) in
    let no_x : eqb b 120 ≡ false = ne_eqb _ _ (omega arith) in
    elim (cases_Bool (eqb a 48)) [
      | inl t ↦ rw (no_minus, t, no_x) (ap (option_map pos) so.read)
      | inr f ↦ rw (no_minus, f) (ap (option_map pos) so.read)
    ]

minus_number : (n : ℕ) (ds : List ℕ) → IsDecimal (suc n) ds → number_of (45 ∷ ds) ≡ Some (negsuc n)
minus_number n [] so = let some : 0 < 0 = so.some in absurd (omega arith)
minus_number n (b ∷ ds) so = ap (option_map minus) so.read

pub number_back : (z : ℤ) → IsShort z → number_of (signed_decimal z) ≡ Some z
number_back (pos n) small = plain_number n (decimal n) (decimal_is n (omega arith))
number_back (negsuc n) small = minus_number n (decimal (suc n)) (decimal_is (suc n) (omega arith))

-- ---- the bytes of a number

-- a byte of a number: a digit or `-`
abbrev pub is_number_byte : ℕ → Bool
is_number_byte b = ltb 44 b && ltb b 58

figures_bytes : (ds : List ℕ) → list_all is_figure ds ≡ true → list_all is_number_byte ds ≡ true
figures_bytes [] e = refl
figures_bytes (d ∷ ds) e =
    let h = and_parts (is_figure d) (list_all is_figure ds) e in
    let r = figure_range d h.0 in
    let low : ltb 44 d ≡ true = lt-ltb _ _ (omega arith) in
    let high : ltb d 58 ≡ true = lt-ltb _ _ (omega arith) in
    rw (low, high, figures_bytes ds h.1) refl

pub number_bytes : (z : ℤ) → IsShort z → list_all is_number_byte (signed_decimal z) ≡ true
number_bytes (pos n) small = figures_bytes (decimal n) (decimal_is n (omega arith)).figures
number_bytes (negsuc n) small = figures_bytes (decimal (suc n)) (decimal_is (suc n) (omega arith)).figures

pub number_some : (z : ℤ) → IsShort z → 0 < length (signed_decimal z)
number_some (pos n) small = (decimal_is n (omega arith)).some
number_some (negsuc n) small = omega arith

pub number_byte_range : (b : ℕ) → is_number_byte b ≡ true → (44 < b) × (b < 58)
number_byte_range b h = let p = and_parts (ltb 44 b) (ltb b 58) h in (ltb-true 44 b p.0, ltb-true b 58 p.1)

pub number_inner : (w : List ℕ) → list_all is_number_byte w ≡ true → list_all is_inner w ≡ true
number_inner [] e = refl
number_inner (b ∷ w) e =
    let h = and_parts (is_number_byte b) (list_all is_number_byte w) e in
    let r = number_byte_range b h.0 in
    let low : ltb 35 b ≡ true = lt-ltb _ _ (omega arith) in
    let other : eqb b 44 ≡ false = ne_eqb _ _ (omega arith) in
    rw (low, other, number_inner w h.1) refl

pub number_token : (z : ℤ) → IsShort z → is_token (signed_decimal z) ≡ true
number_token z small =
    let some : eqb (length (signed_decimal z)) 0 ≡ false = let lt = number_some z small in ne_eqb _ _ (omega arith) in
    rw (number_inner (signed_decimal z) (number_bytes z small), some) refl

-- ---- a number is no name

and_false : (b : Bool) → (b && false) ≡ false
and_false true = refl
and_false false = refl

figure_no_name : (n : ℕ) (ds : List ℕ) → IsDecimal n ds → is_name ds ≡ false
figure_no_name n [] so = let some : 0 < 0 = so.some in absurd (omega arith)
figure_no_name n (a ∷ ds) so =
    let r = figure_range a (and_parts (is_figure a) (list_all is_figure ds) so.figures).0 in
    let low : leb 48 a ≡ true = le-leb _ _ (omega arith) in
    let high : leb a 57 ≡ true = le-leb _ _ (omega arith) in
    rw (low, high) (ap (λ (b : Bool). b && list_all is_name_byte ds) (and_false (is_in_range 1 16 (length (a ∷ ds)))))

minus_no_name : (ds : List ℕ) → is_name (45 ∷ ds) ≡ false
minus_no_name ds = and_false (is_in_range 1 16 (length (45 ∷ ds)) && true)

no_name : (z : ℤ) → IsShort z → is_name (signed_decimal z) ≡ false
no_name (pos n) small = figure_no_name n (decimal n) (decimal_is n (omega arith))
no_name (negsuc n) small = minus_no_name (decimal (suc n))

pub target_back : (z : ℤ) → IsShort z → target_of (signed_decimal z) ≡ Some (operands.Number z)
target_back z small = rw (no_name z small, number_back z small) refl

-- ---- hexadecimal digits

digit_inner : (d : ℕ) → d < 16 → is_inner (digit_char d) ≡ true
digit_inner d lt = elim (cases_Bool (ltb d 10)) [
  | inl t ↦
      let below = ltb-true d 10 t in
      let low : ltb 35 (48 + d) ≡ true = lt-ltb _ _ (omega arith) in
      let other : eqb (48 + d) 44 ≡ false = ne_eqb _ _ (omega arith) in
      rw (t, low, other) refl
  | inr f ↦
      let low : ltb 35 (87 + d) ≡ true = lt-ltb _ _ (omega arith) in
      let other : eqb (87 + d) 44 ≡ false = ne_eqb _ _ (omega arith) in
      rw (f, low, other) refl
]

record IsHexadecimal (count n : ℕ) (ds : List ℕ) : Type 0 where
  size : length ds ≡ count
  digits : list_all (λ d. ltb (digit_value d) 16) ds ≡ true
  inner : list_all is_inner ds ≡ true
  value : digits_value 16 ds ≡ n % 16 ^ count

hexadecimal_is : (count n : ℕ) → IsHexadecimal count n (hexadecimal count n)
unfolding hexadecimal
hexadecimal_is zero n = record { size = refl; digits = refl; inner = refl; value = omega arith }
hexadecimal_is (suc more) n =
    let so = hexadecimal_is more (n / 16) in
    let d = digit_value-digit_char (n % 16) (omega arith) in
    let digit : ltb (digit_value (digit_char (n % 16))) 16 ≡ true = lt-ltb _ _ (omega arith) in
    let byte = digit_inner (n % 16) (omega arith) in
    record {
      size = omega (arith, length-append (hexadecimal more (n / 16)) (digit_char (n % 16) ∷ []), so.size);
      digits = rw (list_all-append (λ d. ltb (digit_value d) 16) (hexadecimal more (n / 16)) (digit_char (n % 16) ∷ []), so.digits, digit) refl;
      inner = rw (list_all-append is_inner (hexadecimal more (n / 16)) (digit_char (n % 16) ∷ []), so.inner, byte) refl;
      value = rw (digits_value_push 16 (hexadecimal more (n / 16)) (digit_char (n % 16)), so.value, d) (let power : 16 ^ suc more ≡ 16 ^ more * 16 = pow-suc 16 more in rw power (sym (mod-mul n (one-le-pow more 16 (lit< tt)) (lit< tt))));
    }

pub hexadecimal_back : (w : ℕ) → w < 2 ^ 32 → number_of (48 ∷ 120 ∷ hexadecimal 8 w) ≡ Some (pos w)
hexadecimal_back w lt =
    let so = hexadecimal_is 8 w in
    let value : digits_value 16 (hexadecimal 8 w) ≡ w = so.value ∙ omega arith in
    ap (option_map pos) (numeral_is 16 w (hexadecimal 8 w) (omega (arith, so.size)) so.digits value (omega arith))

pub hexadecimal_inner : (w : ℕ) → list_all is_inner (hexadecimal 8 w) ≡ true
hexadecimal_inner w = (hexadecimal_is 8 w).inner

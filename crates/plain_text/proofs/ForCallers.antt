-- What proofs above cite of this crate: lines as they are cut from text that was written, where no item passes a test,
-- digits, names by their test, and the test for the same bytes.
use Rattle.std.proofs.Common.{◌≡◌, ℕ, suc, ◌+◌, cond, nat_eq, ◌-◌, ◌<◌, ◌≤◌, Bool, true, false, not, ◌&&◌, List, [], ◌∷◌, ◌++◌, length, get_or, None, eqb, leb, inl, inr, refl, arith, All}
use Rattle.std.specs.Bool.{Decides}
use Rattle.std.specs.Char.{is_ascii_digit}
use Rattle.std.specs.Cmp.Lexicographic.{pointwise}
use Rattle.std.specs.Int.{is_in_range}
use Rattle.std.specs.List.{AllByRecursion, list_all, position, position_or_len, slice_split}
use Rattle.std.specs.Str.Lines.{lines, lines_of_parts, strip_carriage_return}
use Rattle.std.proofs.lemmas.Bool.{and_parts, cases_lt, le-leb, leb-true, lt-ltb, not-true}
use Rattle.std.proofs.lemmas.List.Sums.{AllPass-from_list_all, list_all-from_AllPass}
use Rattle.nv_base.specs.declared.limits.TheConstants.{MAX_NAME}
use Rattle.plain_text.specs.Names.{IsName, is_name, is_name_byte}
use Rattle.std.proofs.lemmas.List.Elements.{All-from_recursion}
use Rattle.std.proofs.lemmas.Bool.Decides.{Decides-eqb}
use Rattle.std.proofs.lemmas.Slice.Eq.{slice_eq-Decides}
use Rattle.std.proofs.lemmas.List.Splits.{slice_split_at, length-slice_split}
pub use Rattle.plain_text.proofs.Digits.{all_digits}

-- no item passes
pub nowhere : {X : Type 0} (p : X → Bool) (xs : List X) → position p xs ≡ None → length xs ≤ position_or_len p xs
nowhere p xs e = elim (cases_lt (position_or_len p xs) (length xs)) [
  | inl lt ↦ absurd (let t = lt-ltb _ _ lt in grind arith)
  | inr le ↦ le
]

-- one item more that does not pass
pub skip_step : (v : Bool) (n m : ℕ) → suc n ≤ cond (not (not v)) (1 + m) 0 → (v ≡ true) × (n ≤ m)
skip_step true n m le = (refl, omega arith)
skip_step false n m le = absurd (omega arith)

-- a part that is not the last is a line
pub parts-cons : (x : List ℕ) (parts : List (List ℕ)) → 0 < length parts → lines_of_parts (x ∷ parts) ≡ strip_carriage_return x ∷ lines_of_parts parts
parts-cons x [] h = absurd (omega arith)
parts-cons x (y ∷ more) h = refl

-- what stands before the first line feed is the first line, where it does not end in a carriage return
pub line_first : (l rest : List ℕ) → AllByRecursion (λ b. eqb b 10 ≡ false) l → eqb (get_or l (length l - 1) 0) 13 ≡ false → lines (l ++ 10 ∷ rest) ≡ l ∷ lines rest
line_first l rest plain last =
    let split : slice_split (λ b. eqb b 10) (l ++ 10 ∷ rest) ≡ l ∷ slice_split (λ b. eqb b 10) rest = slice_split_at (λ b. eqb b 10) l 10 rest (All-from_recursion (λ b. eqb b 10 ≡ false) l plain) refl in
    rw (split, parts-cons l (slice_split (λ b. eqb b 10) rest) (omega (arith, length-slice_split (λ b. eqb b 10) rest)), last) refl

-- the test for a name, and what it says
pub name_means : (word : List ℕ) → is_name word ≡ true → IsName word
name_means word e =
    let range = is_in_range 1 MAX_NAME (length word) in
    let first = not (is_ascii_digit (get_or word 0 0)) in
    let all = and_parts (range && first) (list_all is_name_byte word) e in
    let front = and_parts range first all.0 in
    let size = and_parts (leb 1 (length word)) (leb (length word) MAX_NAME) front.0 in
    record {
      size = (leb-true 1 (length word) size.0, leb-true (length word) MAX_NAME size.1);
      bytes = AllPass-from_list_all is_name_byte word all.1;
      first = not-true (is_ascii_digit (get_or word 0 0)) front.1;
    }

pub name_told : (word : List ℕ) → IsName word → is_name word ≡ true
name_told word h =
    let low : leb 1 (length word) ≡ true = le-leb _ _ h.size.0 in
    let high : leb (length word) MAX_NAME ≡ true = le-leb _ _ h.size.1 in
    rw (low, high, h.first, list_all-from_AllPass is_name_byte word h.bytes) refl

-- the test for the same bytes, and what it says
pub same_bytes : (a b : List ℕ) → Decides (pointwise nat_eq a b) (a ≡ b)
same_bytes a b = slice_eq-Decides Decides-eqb a b (pointwise nat_eq a b) refl

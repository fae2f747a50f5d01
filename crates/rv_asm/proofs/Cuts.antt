-- Text between commas, and round a parenthesis.
use Rattle.std.proofs.Common.{◌≡◌, ℕ, ◌+◌, ◌<◌, ◌≤◌, Bool, List, [], ◌∷◌, length, get_or, take, drop, drop-cons, add-one, position, Some, None, refl, arith, ltb, inl, inr}
use Rattle.std.specs.List.{slice_split, position_or_len, before_first, after_first}
use Rattle.std.proofs.lemmas.Bool.{ltb-true, lt-ltb, cases_lt}
use Rattle.std.proofs.lemmas.Option.{cond_some}
use Rattle.std.proofs.lemmas.List.{drop_all}
use Rattle.std.proofs.lemmas.List.Sums.{fails_before_first}
use Rattle.std.proofs.lemmas.List.Splits.{slice_split_first, slice_split_none, length-slice_split}
use Rattle.rv_isa.specs.declared.syntax.Operand.{Operand}
use Rattle.rv_isa.specs.declared.syntax.Operand.TheVariants.{Rd}
use Rattle.rv_asm.specs.Operands.{Open, comma, parenthesis, operand_in, two_from, fill, filled}

place_is : (p : ℕ → Bool) (text : List ℕ) (i : ℕ) → position p text ≡ Some i → (i < length text) × (position_or_len p text ≡ i)
place_is p text i e =
    let h = cond_some (ltb (position_or_len p text) (length text)) (position_or_len p text) i e in
    (let lt = ltb-true _ _ h.0 in omega (arith, h.1), h.1)

nowhere : (p : ℕ → Bool) (text : List ℕ) → position p text ≡ None → length text ≤ position_or_len p text
nowhere p text e = elim (cases_lt (position_or_len p text) (length text)) [
  | inl lt ↦ absurd (let t = lt-ltb _ _ lt in grind arith)
  | inr le ↦ le
]

pub cut_at : (text : List ℕ) (i : ℕ) → position comma text ≡ Some i → slice_split comma text ≡ take i text ∷ slice_split comma (drop (i + 1) text)
cut_at text i e =
    let h = place_is comma text i e in
    let lt : position_or_len comma text < length text = omega (arith, h.0, h.1) in
    rw (slice_split_first comma text 0 lt, h.1) refl

pub uncut : (text : List ℕ) → position comma text ≡ None → slice_split comma text ≡ text ∷ []
uncut text e = slice_split_none comma text (λ k d lt. fails_before_first comma text k d (let le = nowhere comma text e in omega arith))

pub address_cut : (word : List ℕ) (i : ℕ) → position parenthesis word ≡ Some i → (take i word ≡ before_first parenthesis word) × (drop (i + 1) word ≡ after_first parenthesis word)
address_cut word i e = let h = place_is parenthesis word i e in (rw h.1 refl, rw h.1 refl)

pub address_uncut : (word : List ℕ) → position parenthesis word ≡ None → after_first parenthesis word ≡ []
address_uncut word e = let le = nowhere parenthesis word e in drop_all (position_or_len parenthesis word + 1) word (omega arith)

some_part : (text : List ℕ) → 0 < length (slice_split comma text)
some_part text = omega (arith, length-slice_split comma text)

three_parts : (a b : List ℕ) (rest : List (List ℕ)) → 0 < length rest → two_from (a ∷ b ∷ rest) ≡ None
three_parts a b [] lt = absurd (omega arith)
three_parts a b (c ∷ rest) lt = refl

pub two_too_many : (a b more : List ℕ) → two_from (a ∷ b ∷ slice_split comma more) ≡ None
two_too_many a b more = three_parts a b (slice_split comma more) (some_part more)

extra_part : (o : Open) (rest : List (List ℕ)) → 0 < length rest → filled [] rest o ≡ None
unfolding filled
extra_part o [] lt = absurd (omega arith)
extra_part o (p ∷ rest) lt = refl

pub too_many : (operands : List Operand) (i : ℕ) (text : List ℕ) (o : Open) → length operands ≤ i → filled (drop i operands) (slice_split comma text) o ≡ None
too_many operands i text o le = rw (drop_all i operands le) (extra_part o (slice_split comma text) (some_part text))

pub none_left : (operands : List Operand) (i : ℕ) (o : Open) → i < length operands → filled (drop i operands) [] o ≡ None
unfolding filled
none_left operands i o lt = rw (drop-cons operands i Rd lt) refl

-- the next piece holds no operand
pub no_operand : (operands : List Operand) (i : ℕ) (text piece : List ℕ) (more : List (List ℕ)) (o : Open) → i < length operands
    → slice_split comma text ≡ piece ∷ more → None ≡ operand_in piece → filled (drop i operands) (slice_split comma text) o ≡ None
unfolding filled
no_operand operands i text piece more o lt split e = rw (split, drop-cons operands i Rd lt, ← e) refl

-- the next operand does not fill
pub no_fill : (operands : List Operand) (i : ℕ) (d : Operand) (text piece word : List ℕ) (more : List (List ℕ)) (o : Open) → i < length operands
    → slice_split comma text ≡ piece ∷ more → Some word ≡ operand_in piece → None ≡ fill (get_or operands i d) word o → filled (drop i operands) (slice_split comma text) o ≡ None
unfolding filled
no_fill operands i d text piece word more o lt split e f = rw (split, drop-cons operands i d lt, ← e, ← f) refl

-- the next operand fills
pub one_filled : (operands : List Operand) (i : ℕ) (d : Operand) (text piece word : List ℕ) (more : List (List ℕ)) (o q : Open) → i < length operands
    → slice_split comma text ≡ piece ∷ more → Some word ≡ operand_in piece → Some q ≡ fill (get_or operands i d) word o
    → filled (drop i operands) (slice_split comma text) o ≡ filled (drop (i + 1) operands) more q
unfolding filled
one_filled operands i d text piece word more o q lt split e f = rw (split, drop-cons operands i d lt, ← e, ← f, add-one) refl

-- all operands are filled in
pub all_filled : (operands : List Operand) (i : ℕ) (o : Open) → length operands ≤ i → filled (drop i operands) [] o ≡ Some o
unfolding filled
all_filled operands i o le = rw (drop_all i operands le) refl

-- Words, pieces and lines as they are cut from text that was written.
use Rattle.std.proofs.Common.{◌≡◌, ℕ, zero, suc, ◌+◌, ◌-◌, ◌<◌, ◌&&◌, Bool, true, false, not, List, [], ◌∷◌, ◌++◌, length, map, filter, get_or, Some, refl, ap, ◌∙◌, ltb, eqb, arith, All, codes}
use Rattle.std.specs.List.{list_all, slice_split, onto_first, flat_map, position_or_len, AllByRecursion}
use Rattle.std.specs.Str.Lines.{lines, lines_of_parts, strip_carriage_return}
use Rattle.std.proofs.lemmas.Bool.{ltb-true, lt-ltb, ne_eqb, and_parts}
use Rattle.std.proofs.lemmas.List.{take_at, drop_at, append-nil}
use Rattle.std.proofs.lemmas.List.Elements.{All-from_recursion}
use Rattle.std.proofs.lemmas.List.Splits.{slice_split_at, slice_split_none, length-slice_split}
use Rattle.plain_text.specs.Words.{is_blank, words_in, word_and_rest}
use Rattle.plain_text.proofs.ForCallers.{line_first}
use Rattle.rv_isa.specs.declared.syntax.Operand.{Operand}
use Rattle.rv_asm.specs.Operands.{comma, operand_in, pieces_of}

pub not_true : (b : Bool) → not b ≡ true → b ≡ false
not_true true e = absurd cc
not_true false e = refl

-- a byte of an operand or a mnemonic: no blank, no comma, no `#`, no end of a line
abbrev pub is_inner : ℕ → Bool
is_inner b = ltb 35 b && not (eqb b 44)

abbrev pub is_token : List ℕ → Bool
is_token w = list_all is_inner w && not (eqb (length w) 0)

pub token_inner : (w : List ℕ) → is_token w ≡ true → list_all is_inner w ≡ true
token_inner w e = (and_parts (list_all is_inner w) (not (eqb (length w) 0)) e).0

pub misses_blank : (b : ℕ) → is_inner b ≡ true → is_blank b ≡ false
misses_blank b h =
    let lt = ltb-true 35 b (and_parts (ltb 35 b) (not (eqb b 44)) h).0 in
    let one : eqb b 32 ≡ false = ne_eqb _ _ (omega arith) in
    let two : eqb b 9 ≡ false = ne_eqb _ _ (omega arith) in
    rw (one, two) refl

pub misses_comma : (b : ℕ) → is_inner b ≡ true → comma b ≡ false
misses_comma b h = not_true (eqb b 44) (and_parts (ltb 35 b) (not (eqb b 44)) h).1

-- where no byte of the front passes p, the first that does stands behind it
pub front : (q p : ℕ → Bool) (misses : (b : ℕ) → q b ≡ true → p b ≡ false) (w rest : List ℕ) → list_all q w ≡ true → position_or_len p (w ++ rest) ≡ length w + position_or_len p rest
front q p misses [] rest e = omega arith
front q p misses (b ∷ w) rest e =
    let h = and_parts (q b) (list_all q w) e in
    rw (misses b h.0, front q p misses w rest h.1) (omega arith)

missed : (p : ℕ → Bool) (misses : (b : ℕ) → is_inner b ≡ true → p b ≡ false) (w : List ℕ) → list_all is_inner w ≡ true → AllByRecursion (λ x. p x ≡ false) w
missed p misses [] e = tt
missed p misses (b ∷ w) e = let h = and_parts (is_inner b) (list_all is_inner w) e in (misses b h.0, missed p misses w h.1)

-- ---- words

-- the word at the front, and the rest behind a space
pub word_first : (w rest : List ℕ) → is_token w ≡ true → word_and_rest (w ++ 32 ∷ rest) ≡ Some (w, 32 ∷ rest)
word_first [] rest e = absurd cc
word_first (b ∷ w) rest e =
    let all = token_inner (b ∷ w) e in
    let first = and_parts (is_inner b) (list_all is_inner w) all in
    let starts = misses_blank b first.0 in
    let end : position_or_len is_blank (w ++ 32 ∷ rest) ≡ length w = front is_inner is_blank misses_blank w (32 ∷ rest) first.1 ∙ omega arith in
    let some : eqb (length ((b ∷ w) ++ 32 ∷ rest)) 0 ≡ false = ne_eqb _ _ (omega arith) in
    rw (starts, some, end, starts, take_at (b ∷ w) (32 ∷ rest) (1 + length w) (omega arith), drop_at (b ∷ w) (32 ∷ rest) (1 + length w) (omega arith)) refl

pub one_word : (w : List ℕ) → is_token w ≡ true → words_in w ≡ w ∷ []
one_word w e =
    let all = token_inner w e in
    let split : slice_split is_blank w ≡ w ∷ [] = slice_split_none is_blank w (All-from_recursion (λ x. is_blank x ≡ false) w (missed is_blank misses_blank w all)) in
    let kept : not (eqb (length w) 0) ≡ true = (and_parts (list_all is_inner w) (not (eqb (length w) 0)) e).1 in
    rw (split, kept) refl

pub operand_is : (w : List ℕ) → is_token w ≡ true → operand_in (32 ∷ w) ≡ Some w
operand_is w e = rw (one_word w e) refl

-- ---- pieces

some_part : (b : ℕ) (parts : List (List ℕ)) → eqb (length (filter (λ w. not (eqb (length w) 0)) (onto_first b parts))) 0 ≡ false
some_part b [] = refl
some_part b (part ∷ parts) =
    let some : eqb (length (b ∷ part)) 0 ≡ false = ne_eqb _ _ (omega arith) in
    rw some (ne_eqb _ _ (omega arith))

-- where a word begins, there is a word
some_word : (b : ℕ) (bytes : List ℕ) → is_blank b ≡ false → eqb (length (words_in (b ∷ bytes))) 0 ≡ false
some_word b bytes h = rw h (some_part b (slice_split is_blank bytes))

no_comma : (w : List ℕ) → is_token w ≡ true → All (λ x. comma x ≡ false) (32 ∷ w)
no_comma w e = All-from_recursion (λ x. comma x ≡ false) (32 ∷ w) (refl, missed comma misses_comma w (token_inner w e))

-- texts behind a comma and a space each, after a piece without a comma
cut : (t : Operand → List ℕ) (tokens : (o : Operand) → is_token (t o) ≡ true) (piece : List ℕ) (others : List Operand)
    → All (λ x. comma x ≡ false) piece
    → slice_split comma (piece ++ flat_map (λ o. codes ", " ++ t o) others) ≡ piece ∷ map (λ o. 32 ∷ t o) others
cut t tokens piece [] none = ap (slice_split comma) (append-nil piece) ∙ slice_split_none comma piece none
cut t tokens piece (o ∷ others) none =
    slice_split_at comma piece 44 ((32 ∷ t o) ++ flat_map (λ o. codes ", " ++ t o) others) none refl
    ∙ ap (λ (pieces : List (List ℕ)). piece ∷ pieces) (cut t tokens (32 ∷ t o) others (no_comma (t o) (tokens o)))

-- the pieces of operands as they are written
pub pieces_are : (t : Operand → List ℕ) (tokens : (o : Operand) → is_token (t o) ≡ true) (first : Operand) (others : List Operand)
    → pieces_of (codes " " ++ t first ++ flat_map (λ o. codes ", " ++ t o) others) ≡ map (λ o. 32 ∷ t o) (first ∷ others)
pieces_are t tokens first others =
    let some : eqb (length (words_in (t first ++ flat_map (λ o. codes ", " ++ t o) others))) 0 ≡ false = begins (t first) (flat_map (λ o. codes ", " ++ t o) others) (tokens first) in
    rw some (cut t tokens (32 ∷ t first) others (no_comma (t first) (tokens first)))
  where
    begins : (w rest : List ℕ) → is_token w ≡ true → eqb (length (words_in (w ++ rest))) 0 ≡ false
    begins [] rest e = absurd cc
    begins (b ∷ w) rest e = some_word b (w ++ rest) (misses_blank b (and_parts (is_inner b) (list_all is_inner w) (token_inner (b ∷ w) e)).0)

-- ---- lines

abbrev pub is_text_byte : ℕ → Bool
is_text_byte b = ltb 13 b && not (eqb b 35)

pub token_text : (w : List ℕ) → list_all is_inner w ≡ true → list_all is_text_byte w ≡ true
token_text [] e = refl
token_text (b ∷ w) e =
    let h = and_parts (is_inner b) (list_all is_inner w) e in
    let lt = ltb-true 35 b (and_parts (ltb 35 b) (not (eqb b 44)) h.0).0 in
    let one : ltb 13 b ≡ true = lt-ltb _ _ (omega arith) in
    let two : eqb b 35 ≡ false = ne_eqb _ _ (omega arith) in
    rw (one, two, token_text w h.1) refl

text_above : (b : ℕ) → is_text_byte b ≡ true → 13 < b
text_above b h = ltb-true 13 b (and_parts (ltb 13 b) (not (eqb b 35)) h).0

no_feed : (t : List ℕ) → list_all is_text_byte t ≡ true → AllByRecursion (λ b. eqb b 10 ≡ false) t
no_feed [] e = tt
no_feed (b ∷ t) e =
    let h = and_parts (is_text_byte b) (list_all is_text_byte t) e in
    let lt = text_above b h.0 in
    (ne_eqb _ _ (omega arith), no_feed t h.1)

pub no_comment : (t : List ℕ) → list_all is_text_byte t ≡ true → position_or_len (λ b. eqb b 35) t ≡ length t
no_comment [] e = refl
no_comment (b ∷ t) e =
    let h = and_parts (is_text_byte b) (list_all is_text_byte t) e in
    let other = (and_parts (ltb 13 b) (not (eqb b 35)) h.0).1 in
    rw (other, no_comment t h.1) (omega arith)

at_index : (t : List ℕ) (i : ℕ) → list_all is_text_byte t ≡ true → i < length t → 13 < get_or t i 0
at_index [] i e lt = absurd (omega arith)
at_index (b ∷ t) zero e lt = text_above b (and_parts (is_text_byte b) (list_all is_text_byte t) e).0
at_index (b ∷ t) (suc i) e lt = at_index t i (and_parts (is_text_byte b) (list_all is_text_byte t) e).1 (omega arith)

pub text_first : (t rest : List ℕ) → list_all is_text_byte t ≡ true → 0 < length t → lines (t ++ 10 ∷ rest) ≡ t ∷ lines rest
text_first t rest e lt =
    let last : eqb (get_or t (length t - 1) 0) 13 ≡ false = let above = at_index t (length t - 1) e (omega arith) in ne_eqb _ _ (omega arith) in
    line_first t rest (no_feed t e) last

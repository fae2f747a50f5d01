-- Taking the first line off bytes, and the first word off a line.
use Rattle.std.proofs.Common.{◌≡◌, ℕ, zero, suc, add-one, length-take, length-drop, unwrap_or, ◌+◌, ◌≤◌, ◌<◌, Bool, true, false, List, [], ◌∷◌, length, get_or, take, drop, Some, None, refl, sym, ◌∙◌, inl, inr, arith, ltb, eqb, drop-cons, not, filter}
use Rattle.std.specs.List.{slice_split, position, position_or_len, before_first, after_first, onto_first}
use Rattle.std.specs.Str.Lines.{lines, lines_of_parts, strip_carriage_return}
use Rattle.std.proofs.lemmas.Bool.{cases_Bool, ltb-true, lt-ltb, cases_lt, le-ltb, ne_eqb}
use Rattle.std.proofs.lemmas.Option.{cond_some}
use Rattle.std.proofs.lemmas.List.{take_all, drop_all}
use Rattle.std.proofs.lemmas.List.Sums.{length-filter, count_by-le-length, fails_before_first, passes_at_first, prefix_len-le-length}
use Rattle.std.proofs.lemmas.List.Splits.{slice_split_first, slice_split_none, slice_split-cons_yes, slice_split-cons_no, length-slice_split}
use Rattle.plain_text.specs.Words.{is_blank, words_in, line_words, word_and_rest}
use Rattle.plain_text.proofs.ForCallers.{nowhere, parts-cons, skip_step}

abbrev is_feed : ℕ → Bool
is_feed b = eqb b 10

position_is : {X : Type 0} (p : X → Bool) (xs : List X) (i : ℕ) → position p xs ≡ Some i → (position_or_len p xs < length xs) × (position_or_len p xs ≡ i)
position_is p xs i e =
    let h = cond_some (ltb (position_or_len p xs) (length xs)) (position_or_len p xs) i e in
    (ltb-true _ _ h.0, h.1)

split_whole : {X : Type 0} (p : X → Bool) (xs : List X) → length xs ≤ position_or_len p xs → slice_split p xs ≡ xs ∷ []
split_whole p xs le = slice_split_none p xs (λ k d lt. fails_before_first p xs k d (omega arith))

-- a line that a line feed ends
pub lines-fed : (bytes : List ℕ) (i : ℕ) → position is_feed bytes ≡ Some i → lines bytes ≡ strip_carriage_return (take i bytes) ∷ lines (drop (i + 1) bytes)
lines-fed bytes i e =
    let p = position_is is_feed bytes i e in
    rw (slice_split_first is_feed bytes 0 p.0, p.1, parts-cons (take i bytes) (slice_split is_feed (drop (i + 1) bytes)) (omega (arith, length-slice_split is_feed (drop (i + 1) bytes)))) refl

last_line : (bytes : List ℕ) → 0 < length bytes → lines_of_parts (bytes ∷ []) ≡ bytes ∷ []
last_line [] h = absurd (omega arith)
last_line (b ∷ bytes) h =
    let e : eqb (length (b ∷ bytes)) 0 ≡ false = ne_eqb _ _ (omega arith) in
    rw e refl

-- the last line, that none ends
pub lines-last : (bytes : List ℕ) → position is_feed bytes ≡ None → 0 < length bytes → lines bytes ≡ bytes ∷ []
lines-last bytes e h = rw (split_whole is_feed bytes (nowhere is_feed bytes e)) (last_line bytes h)

-- ---- words

words_in-blank : (b : ℕ) (bytes : List ℕ) → is_blank b ≡ true → words_in (b ∷ bytes) ≡ words_in bytes
words_in-blank b bytes e = rw (slice_split-cons_yes is_blank b bytes e) refl

abbrev starts : ℕ → Bool
starts b = not (is_blank b)

words_in-skip : (n : ℕ) (bytes : List ℕ) → n ≤ position_or_len starts bytes → words_in (drop n bytes) ≡ words_in bytes
words_in-skip zero bytes le = refl
words_in-skip (suc n) [] le = absurd (omega arith)
words_in-skip (suc n) (b ∷ bytes) le =
    let s = skip_step (is_blank b) n (position_or_len starts bytes) le in
    words_in-skip n bytes s.1 ∙ sym (words_in-blank b bytes s.0)

kept : (w : List ℕ) (ws : List (List ℕ)) → 0 < length w → filter (λ w. not (eqb (length w) 0)) (w ∷ ws) ≡ w ∷ filter (λ w. not (eqb (length w) 0)) ws
kept [] ws h = absurd (omega arith)
kept (b ∷ w) ws h =
    let e : eqb (length (b ∷ w)) 0 ≡ false = ne_eqb _ _ (omega arith) in
    rw e refl

words_in-first : (bytes : List ℕ) → 0 < position_or_len is_blank bytes → words_in bytes ≡ take (position_or_len is_blank bytes) bytes ∷ words_in (drop (position_or_len is_blank bytes) bytes)
words_in-first bytes h = elim (cases_lt (position_or_len is_blank bytes) (length bytes)) [
  | inl lt ↦
      let rest : words_in (drop (position_or_len is_blank bytes) bytes) ≡ words_in (after_first is_blank bytes) =
      rw (drop-cons bytes (position_or_len is_blank bytes) 0 lt, add-one) (words_in-blank (get_or bytes (position_or_len is_blank bytes) 0) (drop (suc (position_or_len is_blank bytes)) bytes) (passes_at_first is_blank bytes 0 lt)) in
      rw (rest, slice_split_first is_blank bytes 0 lt) (kept (before_first is_blank bytes) (slice_split is_blank (after_first is_blank bytes)) (omega (arith, length-take (position_or_len is_blank bytes) bytes)))
  | inr le ↦
      rw (split_whole is_blank bytes le, take_all (position_or_len is_blank bytes) bytes le, drop_all (position_or_len is_blank bytes) bytes le) (kept bytes [] (omega (arith, prefix_len-le-length (λ b. not (is_blank b)) bytes)))
]

position-or : {X : Type 0} (p : X → Bool) (xs : List X) → unwrap_or (position p xs) (length xs) ≡ position_or_len p xs
position-or p xs = elim (cases_lt (position_or_len p xs) (length xs)) [
  | inl lt ↦ rw (lt-ltb _ _ lt) refl
  | inr le ↦ let small = prefix_len-le-length (λ x. not (p x)) xs in rw (le-ltb _ _ le) (omega arith)
]

pub no_word : (bytes : List ℕ) → position starts bytes ≡ None → words_in bytes ≡ []
no_word bytes e =
    let skipped = words_in-skip (length bytes) bytes (nowhere starts bytes e) in
    sym skipped ∙ rw (drop_all (length bytes) bytes (omega arith)) refl

pub word_found : (bytes rest : List ℕ) (i j : ℕ) → position starts bytes ≡ Some i → rest ≡ drop i bytes → j ≡ unwrap_or (position is_blank rest) (length rest) → words_in bytes ≡ take j rest ∷ words_in (drop j rest)
word_found bytes rest i j e r n =
    let at = position_is starts bytes i e in
    let whole : words_in rest ≡ words_in bytes = rw r (words_in-skip i bytes (omega arith)) in
    let ends : j ≡ position_or_len is_blank rest = n ∙ position-or is_blank rest in
    let first : not (is_blank (get_or bytes i 0)) ≡ true = rw at.1 at (passes_at_first starts bytes 0 at.0) in
    let lt : i < length bytes = omega (arith, at.0, at.1) in
    let some : 0 < position_or_len is_blank rest = rw (r, drop-cons bytes i 0 lt, first) (omega arith) in
    sym whole ∙ rw ends (words_in-first rest some)

-- the words before a comment
pub line_words-cut : (line : List ℕ) → words_in (take (unwrap_or (position (λ b. eqb b 35) line) (length line)) line) ≡ line_words line
line_words-cut line = rw (position-or (λ b. eqb b 35) line) refl

-- a line has at most one word more than bytes
pub words_few : (bytes : List ℕ) → length (words_in bytes) ≤ length bytes + 1
words_few bytes =
    let kept = length-filter (λ (w : List ℕ). not (eqb (length w) 0)) (slice_split is_blank bytes) in
    omega (arith, kept, count_by-le-length (λ (w : List ℕ). not (eqb (length w) 0)) (slice_split is_blank bytes), length-slice_split is_blank bytes, count_by-le-length is_blank bytes)

parts_few : (parts : List (List ℕ)) → length (lines_of_parts parts) ≤ length parts
parts_few [] = omega arith
parts_few (x ∷ []) = elim (cases_Bool (eqb (length x) 0)) [
  | inl e ↦ rw e (omega arith)
  | inr e ↦ rw e (omega arith)
]
parts_few (x ∷ y ∷ more) = omega (arith, parts_few (y ∷ more))

parts_fewer : (x : ℕ) (parts : List (List ℕ)) → length (lines_of_parts (onto_first x parts)) ≤ length (lines_of_parts parts) + 1
parts_fewer x [] = omega arith
parts_fewer x (y ∷ []) = omega (arith, parts_few ((x ∷ y) ∷ []))
parts_fewer x (y ∷ z ∷ more) = omega arith

-- there are at most as many lines as bytes
pub lines_few : (bytes : List ℕ) → length (lines bytes) ≤ length bytes
lines_few [] = omega arith
lines_few (b ∷ bytes) = elim (cases_Bool (is_feed b)) [
  | inl e ↦ rw (slice_split-cons_yes is_feed b bytes e, parts-cons [] (slice_split is_feed bytes) (omega (arith, length-slice_split is_feed bytes))) (omega (arith, lines_few bytes))
  | inr e ↦ rw (slice_split-cons_no is_feed b bytes e) (omega (arith, parts_fewer b (slice_split is_feed bytes), lines_few bytes))
]

pub no_parts : (bytes : List ℕ) → position starts bytes ≡ None → None ≡ word_and_rest bytes
no_parts bytes e =
    let nothing : drop (position_or_len starts bytes) bytes ≡ [] = drop_all (position_or_len starts bytes) bytes (nowhere starts bytes e) in
    rw nothing refl

pub parts_found : (bytes rest : List ℕ) (i j : ℕ) → position starts bytes ≡ Some i → rest ≡ drop i bytes → j ≡ unwrap_or (position is_blank rest) (length rest) → Some (take j rest, drop j rest) ≡ word_and_rest bytes
parts_found bytes rest i j e r n =
    let at = position_is starts bytes i e in
    let ends : j ≡ position_or_len is_blank rest = n ∙ position-or is_blank rest in
    let lt : i < length bytes = omega (arith, at.0, at.1) in
    let some : eqb (length (drop i bytes)) 0 ≡ false = ne_eqb _ _ (omega (arith, length-drop i bytes)) in
    rw (at.1, some, ends, r) refl

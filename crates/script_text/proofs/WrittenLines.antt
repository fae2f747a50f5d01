-- Lines that were written, word by word, are cut into the same lines and words.
use Rattle.std.proofs.Common.{◌≡◌, ℕ, zero, suc, ◌-◌, ◌<◌, ◌&&◌, Bool, true, false, not, List, [], ◌∷◌, ◌++◌, length, filter, get_or, refl, ap, ◌∙◌, ltb, leb, eqb, arith, All, append_assoc, length-append}
use Rattle.std.specs.List.{list_all, slice_split, before_first, flat_map, position_or_len, AllByRecursion}
use Rattle.std.specs.Str.Lines.{lines}
use Rattle.std.proofs.lemmas.Bool.{ltb-true, lt-ltb, ne_eqb, le-leb, and_parts, and_from, not-true}
use Rattle.std.proofs.lemmas.List.{take_all, append-nil}
use Rattle.std.proofs.lemmas.List.Elements.{All-from_recursion}
use Rattle.std.proofs.lemmas.List.Folds.{list_all-append}
use Rattle.std.proofs.lemmas.List.Splits.{slice_split_at, slice_split_none}
use Rattle.plain_text.specs.Words.{is_blank, is_plain, words_in, line_words}
use Rattle.plain_text.proofs.ForCallers.{line_first}

-- ---- bytes

-- a printed byte that is no `#`
abbrev pub is_line_byte : ℕ → Bool
is_line_byte b = ltb 31 b && ltb b 127 && not (eqb b 35)

-- a byte of a word: one of these, and no space
abbrev pub is_word_byte : ℕ → Bool
is_word_byte b = ltb 35 b && ltb b 127

pub record IsLineByte (b : ℕ) : Type 0 where
  pub low : 31 < b
  pub high : b < 127
  pub other : eqb b 35 ≡ false

pub line_byte : (b : ℕ) → is_line_byte b ≡ true → IsLineByte b
line_byte b h =
    let outer = and_parts (ltb 31 b && ltb b 127) (not (eqb b 35)) h in
    let inner = and_parts (ltb 31 b) (ltb b 127) outer.0 in
    record { low = ltb-true 31 b inner.0; high = ltb-true b 127 inner.1; other = not-true (eqb b 35) outer.1 }

pub word_byte : (b : ℕ) → is_word_byte b ≡ true → (35 < b) × (b < 127)
word_byte b h = let p = and_parts (ltb 35 b) (ltb b 127) h in (ltb-true 35 b p.0, ltb-true b 127 p.1)

pub line_byte_from : (b : ℕ) → 31 < b → b < 127 → eqb b 35 ≡ false → is_line_byte b ≡ true
line_byte_from b low high other =
    let one : ltb 31 b ≡ true = lt-ltb _ _ low in
    let two : ltb b 127 ≡ true = lt-ltb _ _ high in
    rw (one, two, other) refl

pub word_byte_from : (b : ℕ) → 35 < b → b < 127 → is_word_byte b ≡ true
word_byte_from b low high =
    let one : ltb 35 b ≡ true = lt-ltb _ _ low in
    let two : ltb b 127 ≡ true = lt-ltb _ _ high in
    rw (one, two) refl

-- ---- words and lines that are written

-- a word
pub record IsWritten (w : List ℕ) : Type 0 where
  pub bytes : list_all is_word_byte w ≡ true
  pub some : 0 < length w

-- a line that is not empty
pub record IsLine (l : List ℕ) : Type 0 where
  pub bytes : list_all is_line_byte l ≡ true
  pub some : 0 < length l

-- what a word that is written out computes
abbrev pub is_written : List ℕ → Bool
is_written word = list_all is_word_byte word && ltb 0 (length word)

pub literal : (word : List ℕ) → is_written word ≡ true → IsWritten word
literal word h = let p = and_parts (list_all is_word_byte word) (ltb 0 (length word)) h in record { bytes = p.0; some = ltb-true 0 (length word) p.1 }

-- words with one space between them
abbrev pub spaced : List ℕ → List (List ℕ) → List ℕ
spaced first others = first ++ flat_map (λ word. 32 ∷ word) others

pub word_line : (w : List ℕ) → list_all is_word_byte w ≡ true → list_all is_line_byte w ≡ true
word_line [] e = refl
word_line (b ∷ w) e =
    let h = and_parts (is_word_byte b) (list_all is_word_byte w) e in
    let r = word_byte b h.0 in
    let one = line_byte_from b (omega arith) r.1 (ne_eqb _ _ (omega arith)) in
    and_from (is_line_byte b) (list_all is_line_byte w) one (word_line w h.1)

others_line : (others : List (List ℕ)) → AllByRecursion IsWritten others → list_all is_line_byte (flat_map (λ word. 32 ∷ word) others) ≡ true
others_line [] all = refl
others_line (w ∷ others) all =
    list_all-append is_line_byte w (flat_map (λ word. 32 ∷ word) others)
    ∙ and_from (list_all is_line_byte w) (list_all is_line_byte (flat_map (λ word. 32 ∷ word) others)) (word_line w all.0.bytes) (others_line others all.1)

pub spaced_line : (first : List ℕ) (others : List (List ℕ)) → IsWritten first → AllByRecursion IsWritten others → IsLine (spaced first others)
spaced_line first others one all = record {
  bytes =
      list_all-append is_line_byte first (flat_map (λ word. 32 ∷ word) others)
      ∙ and_from (list_all is_line_byte first) (list_all is_line_byte (flat_map (λ word. 32 ∷ word) others)) (word_line first one.bytes) (others_line others all);
  some = let s = one.some in omega (arith, length-append first (flat_map (λ word. 32 ∷ word) others));
}

-- ---- a line's words

plain : (l : List ℕ) → list_all is_line_byte l ≡ true → is_plain l ≡ true
plain [] e = refl
plain (b ∷ l) e =
    let h = and_parts (is_line_byte b) (list_all is_line_byte l) e in
    let r = line_byte b h.0 in
    let low : leb 32 b ≡ true = let lt = r.low in le-leb _ _ (omega arith) in
    let high : leb b 126 ≡ true = let lt = r.high in le-leb _ _ (omega arith) in
    let other : eqb b 9 ≡ false = let lt = r.low in ne_eqb _ _ (omega arith) in
    rw (other, low, high, plain l h.1) refl

pub line_is_plain : (l : List ℕ) → IsLine l → is_plain l ≡ true
line_is_plain l h = plain l h.bytes

no_comment : (l : List ℕ) → list_all is_line_byte l ≡ true → position_or_len (λ b. eqb b 35) l ≡ length l
no_comment [] e = refl
no_comment (b ∷ l) e =
    let h = and_parts (is_line_byte b) (list_all is_line_byte l) e in
    rw ((line_byte b h.0).other, no_comment l h.1) (omega arith)

pub before_comment : (l : List ℕ) → IsLine l → before_first (λ b. eqb b 35) l ≡ l
before_comment l h = rw (no_comment l h.bytes) (take_all (length l) l (omega arith))

no_blank : (w : List ℕ) → list_all is_word_byte w ≡ true → AllByRecursion (λ x. is_blank x ≡ false) w
no_blank [] e = tt
no_blank (b ∷ w) e =
    let h = and_parts (is_word_byte b) (list_all is_word_byte w) e in
    let r = word_byte b h.0 in
    let one : eqb b 32 ≡ false = let lt = r.0 in ne_eqb _ _ (omega arith) in
    let two : eqb b 9 ≡ false = let lt = r.0 in ne_eqb _ _ (omega arith) in
    (rw (one, two) refl, no_blank w h.1)

pub no_blanks : (w : List ℕ) → IsWritten w → All (λ x. is_blank x ≡ false) w
no_blanks w h = All-from_recursion (λ x. is_blank x ≡ false) w (no_blank w h.bytes)

split_spaced : (first : List ℕ) (others : List (List ℕ)) → IsWritten first → AllByRecursion IsWritten others → slice_split is_blank (spaced first others) ≡ first ∷ others
split_spaced first [] one all = ap (slice_split is_blank) (append-nil first) ∙ slice_split_none is_blank first (no_blanks first one)
split_spaced first (w ∷ others) one all =
    slice_split_at is_blank first 32 (spaced w others) (no_blanks first one) refl
    ∙ ap (λ (parts : List (List ℕ)). first ∷ parts) (split_spaced w others all.0 all.1)

kept : (words : List (List ℕ)) → AllByRecursion IsWritten words → filter (λ w. not (eqb (length w) 0)) words ≡ words
kept [] all = refl
kept (w ∷ words) all =
    let some : eqb (length w) 0 ≡ false = let s = all.0.some in ne_eqb _ _ (omega arith) in
    rw (some, kept words all.1) refl

pub spaced_words : (first : List ℕ) (others : List (List ℕ)) → IsWritten first → AllByRecursion IsWritten others → line_words (spaced first others) ≡ first ∷ others
spaced_words first others one all =
    ap words_in (before_comment (spaced first others) (spaced_line first others one all))
    ∙ ap (filter (λ w. not (eqb (length w) 0))) (split_spaced first others one all)
    ∙ kept (first ∷ others) (one, all)

-- ---- a text's lines

-- lines, each with its line feed
abbrev pub joined : List (List ℕ) → List ℕ
joined ls = flat_map (λ line. line ++ 10 ∷ []) ls

no_feed : (l : List ℕ) → list_all is_line_byte l ≡ true → AllByRecursion (λ b. eqb b 10 ≡ false) l
no_feed [] e = tt
no_feed (b ∷ l) e =
    let h = and_parts (is_line_byte b) (list_all is_line_byte l) e in
    (let lt = (line_byte b h.0).low in ne_eqb _ _ (omega arith), no_feed l h.1)

at_index : (l : List ℕ) (i : ℕ) → list_all is_line_byte l ≡ true → i < length l → 31 < get_or l i 0
at_index [] i e lt = absurd (omega arith)
at_index (b ∷ l) zero e lt = (line_byte b (and_parts (is_line_byte b) (list_all is_line_byte l) e).0).low
at_index (b ∷ l) (suc i) e lt = at_index l i (and_parts (is_line_byte b) (list_all is_line_byte l) e).1 (omega arith)

written_first : (l rest : List ℕ) → IsLine l → lines (l ++ 10 ∷ rest) ≡ l ∷ lines rest
written_first l rest h =
    let last : eqb (get_or l (length l - 1) 0) 13 ≡ false = let some = h.some in let above = at_index l (length l - 1) h.bytes (omega arith) in ne_eqb _ _ (omega arith) in
    line_first l rest (no_feed l h.bytes) last

pub joined_lines : (ls : List (List ℕ)) → AllByRecursion IsLine ls → lines (joined ls) ≡ ls
joined_lines [] all = refl
joined_lines (l ∷ ls) all =
    ap lines (append_assoc l (10 ∷ []) (joined ls))
    ∙ written_first l (joined ls) all.0
    ∙ ap (λ (more : List (List ℕ)). l ∷ more) (joined_lines ls all.1)

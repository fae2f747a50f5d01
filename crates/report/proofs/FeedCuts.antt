-- Lines with their line feeds: a text is cut into them in one way.
use Rattle.std.proofs.Common.{◌≡◌, ◌≢◌, ℕ, suc, ◌+◌, ◌≤◌, ◌<◌, Bool, true, false, List, [], ◌∷◌, ◌++◌, length, take, drop, eqb, refl, sym, ap, ◌∙◌, subst, append_assoc, append-nil, arith, length-append, ltb, cond, not, get_or}
use Rattle.std.specs.List.{AllByRecursion, list_all, position_or_len}
use Rattle.std.proofs.lemmas.Bool.{eqb-true, eqb-false, and_parts, ltb-true}
use Rattle.report_text.specs.Reports.{AreLines, fed}

abbrev pub IsLine : List ℕ → Type 0
IsLine line = AllByRecursion (λ b. b ≢ 10) line

-- ---- one line more, and lines one after another

pub fed_then : (xs ys : List (List ℕ)) → fed (xs ++ ys) ≡ fed xs ++ fed ys
fed_then [] ys = refl
fed_then (x ∷ xs) ys = ap (λ t. (x ++ 10 ∷ []) ++ t) (fed_then xs ys) ∙ sym (append_assoc (x ++ 10 ∷ []) (fed xs) (fed ys))

pub fed_more : (xs : List (List ℕ)) (x : List ℕ) → fed (xs ++ x ∷ []) ≡ fed xs ++ (x ++ 10 ∷ [])
fed_more xs x = fed_then xs (x ∷ []) ∙ ap (λ t. fed xs ++ t) (append-nil (x ++ 10 ∷ []))

pub lines_more : (xs ys : List (List ℕ)) → AreLines xs → AreLines ys → AreLines (xs ++ ys)
lines_more [] ys h k = k
lines_more (x ∷ xs) ys h k = (h.0, lines_more xs ys h.1 k)

-- ---- one line is cut off

-- two lines before a line feed each are one line
pub same_line : (a b x y : List ℕ) → IsLine a → IsLine b → a ++ 10 ∷ x ≡ b ++ 10 ∷ y → (a ≡ b) × (x ≡ y)
same_line [] [] x y h k e = (refl, cons_tail e)
  where
    cons_tail : 10 ∷ x ≡ 10 ∷ y → x ≡ y
    cons_tail e = ap (λ l. drop 1 l) e
same_line [] (c ∷ b) x y h k e = absurd (k.0 (sym (ap (λ l. get_or l 0 0) e)))
same_line (c ∷ a) [] x y h k e = absurd (h.0 (ap (λ l. get_or l 0 0) e))
same_line (c ∷ a) (d ∷ b) x y h k e =
    let head : c ≡ d = ap (λ l. get_or l 0 0) e in
    let so = same_line a b x y h.1 k.1 (ap (λ l. drop 1 l) e) in
    (ap (λ z. z ∷ a) head ∙ ap (λ z. d ∷ z) so.0, so.1)

-- a text without a line feed has no line
pub no_line : (a b x : List ℕ) → IsLine a → a ≡ b ++ 10 ∷ x → ⊥
no_line [] [] x h e = absurd (let l : 0 ≡ suc (length x) = ap length e in omega (arith, l))
no_line [] (c ∷ b) x h e = absurd (let l : 0 ≡ suc (length (b ++ 10 ∷ x)) = ap length e in omega (arith, l))
no_line (c ∷ a) [] x h e = h.0 (ap (λ l. get_or l 0 0) e)
no_line (c ∷ a) (d ∷ b) x h e = no_line a b x h.1 (ap (λ l. drop 1 l) e)

-- ---- many lines

-- of two rows of lines before texts the shorter one begins the longer one
pub same_lines : (xs ys : List (List ℕ)) (a b : List ℕ) → AreLines xs → AreLines ys → length xs ≤ length ys → fed xs ++ a ≡ fed ys ++ b → (zs : List (List ℕ)) × (ys ≡ xs ++ zs) × (a ≡ fed zs ++ b)
same_lines [] ys a b h k le e = (ys, refl, e)
same_lines (x ∷ xs) [] a b h k le e = absurd (omega arith)
same_lines (x ∷ xs) (y ∷ ys) a b h k le e =
    let left : fed (x ∷ xs) ++ a ≡ x ++ 10 ∷ (fed xs ++ a) = append_assoc (x ++ 10 ∷ []) (fed xs) a ∙ append_assoc x (10 ∷ []) (fed xs ++ a) in
    let right : fed (y ∷ ys) ++ b ≡ y ++ 10 ∷ (fed ys ++ b) = append_assoc (y ++ 10 ∷ []) (fed ys) b ∙ append_assoc y (10 ∷ []) (fed ys ++ b) in
    let one = same_line x y (fed xs ++ a) (fed ys ++ b) h.0 k.0 (sym left ∙ e ∙ right) in
    let more = same_lines xs ys a b h.1 k.1 (omega arith) one.1 in
    (more.0, ap (λ z. z ∷ ys) (sym one.0) ∙ ap (λ zs. x ∷ zs) more.1, more.2)

-- lines behind which a text has no line feed are all of a text's lines
pub all_lines_are : (xs ys : List (List ℕ)) (a : List ℕ) → AreLines xs → AreLines ys → fed xs ++ a ≡ fed ys → length xs ≤ length ys
all_lines_are [] ys a h k e = omega arith
all_lines_are (x ∷ xs) [] a h k e = absurd (let l : length ((x ++ 10 ∷ []) ++ fed xs ++ a) ≡ 0 = ap length e in omega (arith, l, length-append (x ++ 10 ∷ [] ++ fed xs) a, length-append (x ++ 10 ∷ []) (fed xs), length-append x (10 ∷ [])))
all_lines_are (x ∷ xs) (y ∷ ys) a h k e =
    let left : fed (x ∷ xs) ++ a ≡ x ++ 10 ∷ (fed xs ++ a) = append_assoc (x ++ 10 ∷ []) (fed xs) a ∙ append_assoc x (10 ∷ []) (fed xs ++ a) in
    let right : fed (y ∷ ys) ≡ y ++ 10 ∷ (fed ys) = append_assoc y (10 ∷ []) (fed ys) in
    let one = same_line x y (fed xs ++ a) (fed ys) h.0 k.0 (sym left ∙ e ∙ right) in
    omega (arith, all_lines_are xs ys a h.1 k.1 one.1)

pub fed_long : (xs : List (List ℕ)) → length xs ≤ length (fed xs)
fed_long [] = omega arith
fed_long (x ∷ xs) = omega (arith, fed_long xs, length-append (x ++ 10 ∷ []) (fed xs), length-append x (10 ∷ []))

-- ---- the first line feed

pub feed_none : (bytes : List ℕ) → length bytes ≤ position_or_len (λ b. eqb b 10) bytes → IsLine bytes
feed_none [] e = tt
feed_none (b ∷ bytes) e = go (eqb b 10) refl e (λ l. feed_none bytes l)
  where
    go : (t : Bool) → eqb b 10 ≡ t → suc (length bytes) ≤ cond (not t) (1 + position_or_len (λ b. eqb b 10) bytes) 0 → (length bytes ≤ position_or_len (λ b. eqb b 10) bytes → IsLine bytes) → IsLine (b ∷ bytes)
    go true f l later = absurd (omega arith)
    go false f l later = (eqb-false b 10 f, later (omega arith))

pub feed_some : (bytes : List ℕ) (i : ℕ) → position_or_len (λ b. eqb b 10) bytes ≡ i → i < length bytes → IsLine (take i bytes) × (bytes ≡ take i bytes ++ 10 ∷ drop (i + 1) bytes)
feed_some [] i e lt = absurd (omega arith)
feed_some (b ∷ bytes) i e lt = go (eqb b 10) refl e lt (λ j f l. feed_some bytes j f l)
  where
    go : (t : Bool) → eqb b 10 ≡ t → cond (not t) (1 + position_or_len (λ b. eqb b 10) bytes) 0 ≡ i → i < suc (length bytes)
        → ((j : ℕ) → position_or_len (λ b. eqb b 10) bytes ≡ j → j < length bytes → IsLine (take j bytes) × (bytes ≡ take j bytes ++ 10 ∷ drop (j + 1) bytes))
        → IsLine (take i (b ∷ bytes)) × (b ∷ bytes ≡ take i (b ∷ bytes) ++ 10 ∷ drop (i + 1) (b ∷ bytes))
    go true f e l later = subst (λ k. IsLine (take k (b ∷ bytes)) × (b ∷ bytes ≡ take k (b ∷ bytes) ++ 10 ∷ drop (k + 1) (b ∷ bytes))) e (tt, ap (λ c. c ∷ bytes) (eqb-true b 10 f))
    go false f e l later =
        let j = position_or_len (λ b. eqb b 10) bytes in
        let is : suc j ≡ i = omega (arith, e) in
        let so = later j refl (omega arith) in
        let more : suc j + 1 ≡ suc (j + 1) = omega arith in
        subst (λ k. IsLine (take k (b ∷ bytes)) × (b ∷ bytes ≡ take k (b ∷ bytes) ++ 10 ∷ drop (k + 1) (b ∷ bytes))) is
        ((eqb-false b 10 f, so.0), ap (λ t. b ∷ t) so.1 ∙ ap (λ m. b ∷ (take j bytes ++ 10 ∷ drop m (b ∷ bytes))) (sym more))

-- printed characters are no line feeds
pub printed_line : (line : List ℕ) → list_all (λ b. ltb 31 b) line ≡ true → IsLine line
printed_line [] e = tt
printed_line (b ∷ line) e = let h = and_parts (ltb 31 b) (list_all (λ b. ltb 31 b) line) e in ((λ f. absurd (omega (arith, ltb-true 31 b h.0, f))), printed_line line h.1)

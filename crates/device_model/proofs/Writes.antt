-- What lists of writes make of the words.
use Rattle.std.proofs.Common.{◌≡◌, ◌≢◌, ℕ, zero, suc, ◌+◌, ◌<◌, ⊎_elim, List, [], ◌∷◌, ◌++◌, length, get_or, slice_index, set, take, arith, refl, ap, sym, ◌∙◌, subst}
use Rattle.std.specs.List.{AllByRecursion}
use Rattle.std.proofs.lemmas.Bool.{cases_eq, eq-eqb, ne_eqb}
use Rattle.std.proofs.lemmas.List.{get_or-set_same, get_or-set_other, length-set, take-append-le, length-append}
use Rattle.device_model.specs.Words.{Words, Change, with_word, made, made_in, words_from, written_at}

-- a fact of each write
abbrev pub Every : (Change → Type 0) → List Change → Type 0
Every P log = AllByRecursion P log

pub Every-append : (P : Change → Type 0) (xs ys : List Change) → Every P xs → Every P ys → Every P (xs ++ ys)
Every-append P [] ys a b = b
Every-append P (x ∷ xs) ys a b = (a.0, Every-append P xs ys a.1 b)

pub Every-take : (P : Change → Type 0) (k : ℕ) (xs : List Change) → Every P xs → Every P (take k xs)
Every-take P zero xs a = tt
Every-take P (suc k) [] a = tt
Every-take P (suc k) (x ∷ xs) a = (a.0, Every-take P k xs a.1)

pub Every-same : (P Q : Change → Type 0) (xs : List Change) → ((w : Change) → P w → Q w) → Every P xs → Every Q xs
Every-same P Q [] f h = tt
Every-same P Q (x ∷ xs) f h = (f x h.0, Every-same P Q xs f h.1)

pub with_word-same : (w : Change) (words : Words) (p : ℕ) → w.0 ≡ p → with_word w words p ≡ w.1
with_word-same w words p e = rw (eq-eqb w.0 p e) refl

pub with_word-other : (w : Change) (words : Words) (p : ℕ) → w.0 ≢ p → with_word w words p ≡ words p
with_word-other w words p e = rw (ne_eqb w.0 p e) refl

-- a place that no write names
pub untouched : (log : List Change) (words : Words) (p : ℕ) → Every (λ w. w.0 ≢ p) log → made log words p ≡ words p
untouched [] words p h = refl
untouched (w ∷ log) words p h = untouched log (with_word w words) p h.1 ∙ with_word-other w words p h.0

pub made-append : (a b : List Change) (words : Words) → made (a ++ b) words ≡ made b (made a words)
made-append [] b words = refl
made-append (w ∷ a) b words = made-append a b (with_word w words)

-- the last write
pub made-last : (log : List Change) (w : Change) (words : Words) → made (log ++ w ∷ []) words ≡ with_word w (made log words)
made-last log w words = made-append log (w ∷ []) words

-- before the last write only the others are made
pub take-body : (k : ℕ) (log : List Change) (w : Change) → k < length (log ++ w ∷ []) → take k (log ++ w ∷ []) ≡ take k log
take-body k log w l = take-append-le k log (w ∷ []) (omega (arith, l, length-append log (w ∷ [])))

-- ---- words from a place on

pub length-words_from : (f : Words) (p n : ℕ) → length (words_from f p n) ≡ n
length-words_from f p zero = refl
length-words_from f p (suc n) = ap suc (length-words_from f (p + 1) n)

pub word_from : (f : Words) (p n i : ℕ) → i < n → slice_index (words_from f p n) i ≡ f (p + i)
word_from f p zero i l = absurd (omega arith)
word_from f p (suc n) zero l = ap f (let e : p ≡ p + 0 = omega arith in e)
word_from f p (suc n) (suc i) l = word_from f (p + 1) n i (omega arith) ∙ ap f (let e : p + 1 + i ≡ p + suc i = omega arith in e)

pub words_from-same : (f g : Words) (p q n : ℕ) → ((i : ℕ) → i < n → f (p + i) ≡ g (q + i)) → words_from f p n ≡ words_from g q n
words_from-same f g p q zero h = refl
words_from-same f g p q (suc n) h =
    let a : p ≡ p + 0 = omega arith in
    let b : q + 0 ≡ q = omega arith in
    ap (λ (x : ℕ). x ∷ words_from f (p + 1) n) (ap f a ∙ h 0 (omega arith) ∙ ap g b)
    ∙ ap (λ (xs : List ℕ). g q ∷ xs) (words_from-same f g (p + 1) (q + 1) n (λ i l. let c : p + 1 + i ≡ p + suc i = omega arith in let d : q + suc i ≡ q + 1 + i = omega arith in ap f c ∙ h (suc i) (omega arith) ∙ ap g d))

-- a list of words, word by word
pub words_are : (f : Words) (p : ℕ) (xs : List ℕ) → ((i : ℕ) → i < length xs → f (p + i) ≡ slice_index xs i) → words_from f p (length xs) ≡ xs
words_are f p [] h = refl
words_are f p (x ∷ xs) h =
    let a : p ≡ p + 0 = omega arith in
    ap (λ (y : ℕ). y ∷ words_from f (p + 1) (length xs)) (ap f a ∙ h 0 (omega arith))
    ∙ ap (λ (ys : List ℕ). x ∷ ys) (words_are f (p + 1) xs (λ i l. let c : p + 1 + i ≡ p + suc i = omega arith in ap f c ∙ h (suc i) (omega arith)))

pub length-written : (p : ℕ) (xs : List ℕ) → length (written_at p xs) ≡ length xs
length-written p [] = refl
length-written p (x ∷ xs) = ap suc (length-written (p + 1) xs)

-- write number i
pub written-at : (p : ℕ) (xs : List ℕ) (i : ℕ) → i < length xs → get_or (written_at p xs) i (0, 0) ≡ (p + i, slice_index xs i)
written-at p [] i l = absurd (omega arith)
written-at p (x ∷ xs) zero l = let a : p ≡ p + 0 = omega arith in ap (λ (q : ℕ). let w : Change = (q, x) in w) a
written-at p (x ∷ xs) (suc i) l = let c : p + 1 + i ≡ p + suc i = omega arith in written-at (p + 1) xs i (omega arith) ∙ ap (λ (q : ℕ). let w : Change = (q, slice_index xs i) in w) c

-- what holds of each of these places
pub Every-written : (P : ℕ → Type 0) (p : ℕ) (xs : List ℕ) → ((i : ℕ) → i < length xs → P (p + i)) → Every (λ w. P w.0) (written_at p xs)
Every-written P p [] h = tt
Every-written P p (x ∷ xs) h =
    let a : p + 0 ≡ p = omega arith in
    (subst P a (h 0 (omega arith)), Every-written P (p + 1) xs (λ i l. let c : p + suc i ≡ p + 1 + i = omega arith in subst P c (h (suc i) (omega arith))))

-- the words stand there then
pub written-in : (p : ℕ) (xs : List ℕ) (words : Words) (i : ℕ) → i < length xs → made (written_at p xs) words (p + i) ≡ slice_index xs i
written-in p [] words i l = absurd (omega arith)
written-in p (x ∷ xs) words zero l =
    let a : p ≡ p + 0 = omega arith in
    untouched (written_at (p + 1) xs) (with_word (p, x) words) (p + 0) (Every-written (λ q. q ≢ p + 0) (p + 1) xs (λ i m e. omega arith)) ∙ with_word-same (p, x) words (p + 0) a
written-in p (x ∷ xs) words (suc i) l = let c : p + suc i ≡ p + 1 + i = omega arith in ap (made (written_at (p + 1) xs) (with_word (p, x) words)) c ∙ written-in (p + 1) xs (with_word (p, x) words) i (omega arith)

-- and all else stays
pub written-out : (p : ℕ) (xs : List ℕ) (words : Words) (q : ℕ) → ((i : ℕ) → i < length xs → p + i ≢ q) → made (written_at p xs) words q ≡ words q
written-out p xs words q h = untouched (written_at p xs) words q (Every-written (λ r. r ≢ q) p xs h)

-- ---- lists of words

one_word : (w : Change) (words : List ℕ) → w.0 < length words → slice_index (set words w.0 w.1) ≡ with_word w (slice_index words)
one_word w words l = λ i p. each p i
  where
    each : (p : ℕ) → slice_index (set words w.0 w.1) p ≡ with_word w (slice_index words) p
    each p = ⊎_elim
        (λ e. ap (slice_index (set words w.0 w.1)) (sym e) ∙ get_or-set_same words w.0 w.1 0 l ∙ sym (with_word-same w (slice_index words) p e))
        (λ n. get_or-set_other words w.0 p w.1 0 (λ e. n (sym e)) ∙ sym (with_word-other w (slice_index words) p n)) (cases_eq w.0 p)

-- the words of a device are the function of its list
pub image_by_place : (log : List Change) (words : List ℕ) → Every (λ w. w.0 < length words) log → slice_index (made_in log words) ≡ made log (slice_index words)
image_by_place [] words h = refl
image_by_place (w ∷ log) words h =
    image_by_place log (set words w.0 w.1) (Every-same (λ v. v.0 < length words) (λ v. v.0 < length (set words w.0 w.1)) log (λ v l. rw (length-set words w.0 w.1) l) h.1)
    ∙ ap (made log) (one_word w words h.0)

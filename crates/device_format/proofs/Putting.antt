-- How logs grow by words that are put.
use Rattle.std.proofs.Common.{◌≡◌, ◌⊎◌, ⊎_elim, inl, inr, ℕ, zero, suc, ◌+◌, ◌<◌, ◌≤◌, List, [], ◌∷◌, ◌++◌, set, slice_index, Result, Ok, Err, arith, refl, ap, ap₂, sym, ◌∙◌}
use Rattle.std.specs.Result.{OnErr}
use Rattle.std.proofs.lemmas.List.{append_assoc, append-nil, get_or-set_other}
use Rattle.fram_dev.specs.Device.{made_in}
use Rattle.fram_dev.proofs.MadeIn.{made_in-append}
use Rattle.device_model.specs.Words.{Change, Words, words_from, written_at}
use Rattle.device_format.specs.Puts.{HasPut, HasPutFront, puts}

pub put_none : (w : Words) (from : ℕ) (log : List Change) → HasPut w from 0 log log
unfolding puts
put_none w from log = sym (append-nil log)

one_word : (w : Words) (p : ℕ) → puts w p 1 ≡ (p, w p) ∷ []
unfolding puts
one_word w p = refl

pub puts-append : (w : Words) (p n m : ℕ) → puts w p n ++ puts w (p + n) m ≡ puts w p (n + m)
unfolding puts
puts-append w p zero m = let e : p + 0 ≡ p = omega arith in let f : 0 + m ≡ m = omega arith in ap (λ (q : ℕ). puts w q m) e ∙ ap (puts w p) (sym f)
puts-append w p (suc n) m =
    let e : p + suc n ≡ p + 1 + n = omega arith in
    let f : suc n + m ≡ suc (n + m) = omega arith in
    ap (λ (log : List Change). (p, w p) ∷ log) (ap (λ (q : ℕ). puts w (p + 1) n ++ puts w q m) e ∙ puts-append w (p + 1) n m) ∙ ap (puts w p) (sym f)

pub put_then : (w : Words) (p n q m total : ℕ) (a b c : List Change) → HasPut w p n a b → HasPut w q m b c → q ≡ p + n → total ≡ n + m → HasPut w p total a c
put_then w p n q m total a b c h k e f =
    k ∙ ap (λ (log : List Change). log ++ puts w q m) h ∙ append_assoc a (puts w p n) (puts w q m)
    ∙ ap (λ (r : ℕ). a ++ (puts w p n ++ puts w r m)) e ∙ ap (λ (log : List Change). a ++ log) (puts-append w p n m) ∙ ap (λ (t : ℕ). a ++ puts w p t) (sym f)

-- one word more
pub put_more : (w : Words) (p n q v : ℕ) (a b c : List Change) → HasPut w p n a b → c ≡ b ++ (q, v) ∷ [] → q ≡ p + n → v ≡ w (p + n) → HasPut w p (n + 1) a c
put_more w p n q v a b c h k e f =
    let one : (q, v) ∷ [] ≡ puts w (p + n) 1 = ap (λ (r : ℕ). let x : Change = (r, v) in x ∷ []) e ∙ ap (λ (u : ℕ). let x : Change = (p + n, u) in x ∷ []) f ∙ sym (one_word w (p + n)) in
    put_then w p n (p + n) 1 (n + 1) a b c h (k ∙ ap (λ (log : List Change). b ++ log) one) refl refl

-- all of some is a front of more
pub put_front : (w : Words) (p n m : ℕ) (a b : List Change) → HasPut w p n a b → n ≤ m → HasPutFront w p m a b
put_front w p n m a b h l = (n, l, h)

-- a front of what comes next
pub front_then : (w : Words) (p n q m total : ℕ) (a b c : List Change) → HasPut w p n a b → HasPutFront w q m b c → q ≡ p + n → n + m ≤ total → HasPutFront w p total a c
front_then w p n q m total a b c h k e l = (n + k.0, omega (arith, k.1, l), put_then w p n q k.0 (n + k.0) a b c h k.2 e refl)

-- one word more, or not
pub front_more : (w : Words) (p n q v total : ℕ) (a b c : List Change) → HasPut w p n a b → (c ≡ b) ⊎ (c ≡ b ++ (q, v) ∷ []) → q ≡ p + n → v ≡ w (p + n) → n < total → HasPutFront w p total a c
front_more w p n q v total a b c h k e f l = ⊎_elim (λ s. (n, omega arith, s ∙ h)) (λ s. (n + 1, omega arith, put_more w p n q v a b c h s e f)) k

-- ---- what stands before the first of them stays

set_later : (p : ℕ) (xs words : List ℕ) (q : ℕ) → q < p → slice_index (made_in (written_at p xs) words) q ≡ slice_index words q
set_later p [] words q l = refl
set_later p (x ∷ xs) words q l = set_later (p + 1) xs (set words p x) q (omega arith) ∙ get_or-set_other words p q x 0 (λ e. omega (arith, e))

pub old_stays : (w : Words) (p n : ℕ) (a b : List Change) (start new : List ℕ) (q : ℕ) → HasPut w p n a b → new ≡ start → q < p → slice_index (made_in b new) q ≡ slice_index (made_in a start) q
unfolding puts
old_stays w p n a b start new q h e l =
    ap (λ (words : List ℕ). slice_index (made_in b words) q) e
    ∙ ap (λ (log : List Change). slice_index (made_in log start) q) h
    ∙ ap (λ (words : List ℕ). slice_index words q) (made_in-append a (puts w p n) start)
    ∙ set_later p (words_from w p n) (made_in a start) q l

-- ---- results

-- what holds at any answer
pub at_err : {T E P : Type 0} (r : Result T E) → P → OnErr r P
at_err (Ok x) p = tt
at_err (Err e) p = p

-- ---- the same at other names of the places

pub put_at : (w : Words) (p n q m : ℕ) (a b : List Change) → p ≡ q → n ≡ m → HasPut w p n a b → HasPut w q m a b
put_at w p n q m a b e f h = h ∙ ap₂ (λ (q m : ℕ). a ++ puts w q m) e f

pub front_at : (w : Words) (p n q m : ℕ) (a b : List Change) → p ≡ q → n ≡ m → HasPutFront w p n a b → HasPutFront w q m a b
front_at w p n q m a b e f h = (h.0, let l = h.1 in omega (arith, l, f), put_at w p h.0 q h.0 a b e refl h.2)

pub front_in : (w : Words) (p n q total : ℕ) (a b : List Change) → p ≡ q → n ≤ total → HasPutFront w p n a b → HasPutFront w q total a b
front_in w p n q total a b e l h = (h.0, let k = h.1 in omega (arith, k, l), put_at w p h.0 q h.0 a b e refl h.2)

-- what stands at some places, by other names of these
pub at_places : (w f : Words) (p q n m s t : ℕ) → p ≡ q → n ≡ m → s ≡ t → ((i : ℕ) → i < m → w (q + i) ≡ f (t + i)) → (i : ℕ) → i < n → w (p + i) ≡ f (s + i)
at_places w f p q n m s t d e k h i a =
    let u : p + i ≡ q + i = omega (arith, d) in
    let v : t + i ≡ s + i = omega (arith, k) in
    ap w u ∙ h i (omega (arith, a, e)) ∙ ap f v

-- the same for other words that are these
pub same_places : (w f g : Words) (p q n m : ℕ) → p ≡ q → n ≡ m → ((i : ℕ) → i < m → f i ≡ g i) → ((i : ℕ) → i < m → w (q + i) ≡ g i) → (i : ℕ) → i < n → w (p + i) ≡ f i
same_places w f g p q n m d e k h i a =
    let u : p + i ≡ q + i = omega (arith, d) in
    let b : i < m = omega (arith, a, e) in
    ap w u ∙ h i b ∙ sym (k i b)

-- ---- the last write, by another name of its word

pub last_word : (p u v : ℕ) (a b : List Change) → u ≡ v → b ≡ a ++ (p, u) ∷ [] → b ≡ a ++ (p, v) ∷ []
last_word p u v a b e h = h ∙ ap (λ (x : ℕ). a ++ (p, x) ∷ []) e

pub last_or_none : (p u v : ℕ) (a b : List Change) → u ≡ v → (b ≡ a) ⊎ (b ≡ a ++ (p, u) ∷ []) → (b ≡ a) ⊎ (b ≡ a ++ (p, v) ∷ [])
last_or_none p u v a b e h = ⊎_elim (λ n. inl n) (λ n. inr (last_word p u v a b e n)) h

-- ---- one word

pub put_one : (w : Words) (p q v : ℕ) (a b : List Change) → b ≡ a ++ (q, v) ∷ [] → q ≡ p → v ≡ w p → HasPut w p 1 a b
put_one w p q v a b h e f =
    let z : p ≡ p + 0 = omega arith in
    put_at w p (0 + 1) p 1 a b refl (omega arith) (put_more w p 0 q v a a b (put_none w p a) h (e ∙ z) (f ∙ ap w z))

pub front_one : (w : Words) (p q v total : ℕ) (a b : List Change) → (b ≡ a) ⊎ (b ≡ a ++ (q, v) ∷ []) → q ≡ p → v ≡ w p → 0 < total → HasPutFront w p total a b
front_one w p q v total a b h e f l = ⊎_elim
    (λ n. put_front w p 0 total a b (n ∙ put_none w p a) (omega arith))
    (λ n. put_front w p 1 total a b (put_one w p q v a b n e f) (omega (arith, l))) h

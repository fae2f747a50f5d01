-- Tables that are filled row by row.
use Rattle.std.proofs.Common.{◌≡◌, ℕ, zero, suc, ◌+◌, ◌*◌, ◌<◌, ◌≤◌, ⊎_elim, List, [], ◌∷◌, length, get_or, set, slice_index, sum_by, arith, refl, ap, sym, ◌∙◌, subst}
use Rattle.std.proofs.lemmas.Bool.{cases_eq}
use Rattle.std.proofs.lemmas.List.Sums.{sum_by-cons}
use Rattle.std.proofs.lemmas.Nat.{mul-le}
use Rattle.std.proofs.lemmas.List.{get_or-set_same, get_or-set_other}
use Rattle.set_model.specs.Sets.{ObjPart, ProgPart, TaskSet, object_at}
use Rattle.set_model.specs.Limits.{IsObject}
use Rattle.device_model.specs.Layouts.{code_before, slots_words, words_before}
use Rattle.shadow_index.specs.Looks.{looked}

-- one number more
pub number_more : (f : ℕ → ℕ) (xs : List ℕ) (n y : ℕ) → n < length xs → y ≡ f n → ((k : ℕ) → k < n → slice_index xs k ≡ f k) → (k : ℕ) → k < n + 1 → slice_index (set xs n y) k ≡ f k
number_more f xs n y l e h k m = ⊎_elim same other (cases_eq k n)
  where
    same : k ≡ n → slice_index (set xs n y) k ≡ f k
    same s = ap (slice_index (set xs n y)) s ∙ get_or-set_same xs n y 0 l ∙ e ∙ ap f (sym s)

    other : (k ≡ n → ⊥) → slice_index (set xs n y) k ≡ f k
    other d = get_or-set_other xs n k y 0 d ∙ h k (omega arith)

-- one row more, of m numbers
pub row_more : (f : ℕ → ℕ → ℕ) (xs : List (List ℕ)) (n m : ℕ) (ys : List ℕ) → n < length xs → ((j : ℕ) → j < m → slice_index ys j ≡ f n j) → ((k j : ℕ) → k < n → j < m → looked xs k j ≡ f k j) → (k j : ℕ) → k < n + 1 → j < m → looked (set xs n ys) k j ≡ f k j
row_more f xs n m ys l e h k j a b = ⊎_elim same other (cases_eq k n)
  where
    same : k ≡ n → looked (set xs n ys) k j ≡ f k j
    same s = ap (λ (i : ℕ). looked (set xs n ys) i j) s ∙ ap (λ (row : List ℕ). slice_index row j) (get_or-set_same xs n ys [] l) ∙ e j b ∙ ap (λ (i : ℕ). f i j) (sym s)

    other : (k ≡ n → ⊥) → looked (set xs n ys) k j ≡ f k j
    other d = ap (λ (row : List ℕ). slice_index row j) (get_or-set_other xs n k ys [] d) ∙ h k j (omega arith) b

-- two numbers in a row
pub two : (f : ℕ → ℕ) (a b : ℕ) → a ≡ f 0 → b ≡ f 1 → (j : ℕ) → j < 2 → slice_index (a ∷ b ∷ []) j ≡ f j
two f a b p q zero l = p
two f a b p q (suc zero) l = q
two f a b p q (suc (suc j)) l = absurd (omega arith)

pub code_none : (programs : List ProgPart) → code_before programs 0 ≡ 0
code_none [] = refl
code_none (p ∷ programs) = refl

-- the code of one program more
pub code_more : (programs : List ProgPart) (none : ProgPart) (p : ℕ) → p < length programs → code_before programs (p + 1) ≡ code_before programs p + length (get_or programs p none).code
code_more [] none p l = absurd (omega arith)
code_more (q ∷ programs) none zero l = omega (arith, code_none programs)
code_more (q ∷ programs) none (suc p) l =
    let e : code_before programs (p + 1) ≡ code_before programs p + length (get_or programs p none).code = code_more programs none p (omega arith) in
    let f : suc p + 1 ≡ suc (p + 1) = omega arith in
    ap (code_before (q ∷ programs)) f ∙ omega (arith, e)

-- the same at a place that is the next one
pub number_at_more : (f : ℕ → ℕ) (xs : List ℕ) (n i y : ℕ) → i ≡ n → n < length xs → y ≡ f n → ((k : ℕ) → k < n → slice_index xs k ≡ f k) → (k : ℕ) → k < n + 1 → slice_index (set xs i y) k ≡ f k
number_at_more f xs n i y s = subst (λ (i : ℕ). n < length xs → y ≡ f n → ((k : ℕ) → k < n → slice_index xs k ≡ f k) → (k : ℕ) → k < n + 1 → slice_index (set xs i y) k ≡ f k) (sym s) (number_more f xs n y)

pub row_at_more : (f : ℕ → ℕ → ℕ) (xs : List (List ℕ)) (n m i : ℕ) (ys : List ℕ) → i ≡ n → n < length xs → ((j : ℕ) → j < m → slice_index ys j ≡ f n j) → ((k j : ℕ) → k < n → j < m → looked xs k j ≡ f k j) → (k j : ℕ) → k < n + 1 → j < m → looked (set xs i ys) k j ≡ f k j
row_at_more f xs n m i ys s = subst (λ (i : ℕ). n < length xs → ((j : ℕ) → j < m → slice_index ys j ≡ f n j) → ((k j : ℕ) → k < n → j < m → looked xs k j ≡ f k j) → (k j : ℕ) → k < n + 1 → j < m → looked (set xs i ys) k j ≡ f k j) (sym s) (row_more f xs n m ys)

-- an object has 8 slots of 64 words at most
pub few_words : (p : ObjPart) → IsObject p → slots_words p ≤ 512
few_words p h =
    let a = h.size in
    let b = h.slots in
    let r : p.size * p.slots ≤ 64 * 8 = mul-le p.size p.slots 64 8 (omega (arith, a.1)) (omega (arith, b.1)) in
    omega (arith, r)

pub code_all : (programs : List ProgPart) → code_before programs (length programs) ≡ sum_by (λ p. length p.code) programs
code_all [] = refl
code_all (q ∷ programs) = omega (arith, code_all programs, sum_by-cons (λ (p : ProgPart). length p.code) q programs)

-- the row of an object: its first slot, and how far its slots are apart
abbrev pub slot_row : (at : ℕ) → TaskSet → (o j : ℕ) → ℕ
slot_row at set o zero = at + words_before set.objects o
slot_row at set o (suc j) = (object_at set o).size

-- one object more has few words before it
pub few_more : (objects : List ObjPart) (n : ℕ) → words_before objects n ≤ 512 * n → ((o : ℕ) → o < n → words_before objects o ≤ 512 * o) → (o : ℕ) → o < n + 1 → words_before objects o ≤ 512 * o
few_more objects n e h o l = ⊎_elim (λ s. subst (λ (k : ℕ). words_before objects k ≤ 512 * k) (sym s) e) (λ d. h o (omega (arith, l, d))) (cases_eq o n)

-- No two things stand at one place.
use Rattle.std.proofs.Common.{◌≡◌, ◌≢◌, ℕ, zero, suc, ◌+◌, ◌-◌, ◌*◌, ◌/◌, ◌%◌, ◌<◌, ◌≤◌, ⊎_elim, List, [], ◌∷◌, length, get_or, sum_by, true, arith, refl, ap, ap₂, sym, ◌∙◌}
use Rattle.std.proofs.lemmas.Bool.{cases_lt, cases_eq}
use Rattle.std.proofs.lemmas.List.Sums.{sum_by-cons}
use Rattle.std.proofs.lemmas.Nat.{div-add-mod', same_from_place, row_fits, row_below_turned, mod_below}
use Rattle.set_model.specs.Sets.{ObjPart, TaskSet, object_at}
use Rattle.device_model.specs.Layouts.{Layout, copy_place, index_place, index_reads, slots_at, slots_words, slot_place, words_before, need}
use Rattle.device_model.specs.Places.{IsLaidOut}

-- ---- pages

below : (a p c i q z : ℕ) → p < q → c < 2 → i < z → a + (2 * p + c) * z + i < a + 2 * (q * z)
below a p c i q z l m n = let r : (2 * p + c) * z + z ≤ (2 * q) * z = row_fits (2 * p + c) z (2 * q) z (omega arith) (omega arith) in omega arith

-- a page's word stands behind the root, and before the slots
pub copy_place-low : (l : Layout) (page copy i : ℕ) → l.pages_at ≤ copy_place l page copy i
copy_place-low l page copy i = omega arith

pub copy_place-high : (l : Layout) (page copy i : ℕ) → page < l.pages → copy < 2 → i < l.page_words → copy_place l page copy i < slots_at l
copy_place-high l page copy i a b c = below l.pages_at page copy i l.pages l.page_words a b c

-- one place is one word of one copy of one page
pub copy_place-apart : (l : Layout) (p c i q d j : ℕ) → c < 2 → d < 2 → i < l.page_words → j < l.page_words → copy_place l p c i ≡ copy_place l q d j → (p ≡ q) × (c ≡ d) × (i ≡ j)
copy_place-apart l p c i q d j hc hd hi hj e =
    let both = same_from_place (2 * p + c) i (2 * q + d) j l.page_words hi hj (omega arith) in
    (omega (arith, both.0), omega (arith, both.0), both.1)

-- index word i is word i % page_words of page i / page_words
pub page_of : (l : Layout) (i : ℕ) → i < index_reads l → 0 < l.page_words → (i / l.page_words < l.pages) × (i % l.page_words < l.page_words)
page_of l i h z = ((row_below_turned i l.page_words l.pages l.page_words h (omega arith)).1, mod_below i l.page_words z)

-- one place is one index word
pub index_place-apart : (set : TaskSet) (l : Layout) (root i j : ℕ) → IsLaidOut set l → l.is_root root ≡ true → i < index_reads l → j < index_reads l → index_place l root i ≡ index_place l root j → i ≡ j
index_place-apart set l root i j d r a b e =
    let z = d.page_words in
    let p = page_of l i a (omega (arith, z)) in
    let q = page_of l j b (omega (arith, z)) in
    let apart = copy_place-apart l (i / l.page_words) (l.copy root (i / l.page_words)) (i % l.page_words) (j / l.page_words) (l.copy root (j / l.page_words)) (j % l.page_words)
    (d.copies root (i / l.page_words) r p.0) (d.copies root (j / l.page_words) r q.0) p.1 q.1 e in
    sym (div-add-mod' i l.page_words) ∙ ap₂ (λ (m n : ℕ). m * l.page_words + n) apart.0 apart.2 ∙ div-add-mod' j l.page_words

-- ---- slots

pub before-zero : (objects : List ObjPart) → words_before objects 0 ≡ 0
before-zero [] = refl
before-zero (p ∷ objects) = refl

-- the slots of one object more
pub before-more : (objects : List ObjPart) (none : ObjPart) (o : ℕ) → o < length objects → words_before objects (o + 1) ≡ words_before objects o + slots_words (get_or objects o none)
before-more [] none o l = absurd (omega arith)
before-more (p ∷ objects) none zero l = omega (arith, before-zero objects)
before-more (p ∷ objects) none (suc o) l =
    let e : words_before objects (o + 1) ≡ words_before objects o + slots_words (get_or objects o none) = before-more objects none o (omega arith) in
    let f : suc o + 1 ≡ suc (o + 1) = omega arith in
    ap (words_before (p ∷ objects)) f ∙ omega (arith, e)

before-le : (objects : List ObjPart) (o n : ℕ) → words_before objects o ≤ words_before objects (o + n)
before-le [] o n = omega arith
before-le (p ∷ objects) zero n = omega arith
before-le (p ∷ objects) (suc o) n = let e : suc o + n ≡ suc (o + n) = omega arith in rw e (omega (arith, before-le objects o n))

pub before-total : (objects : List ObjPart) (o : ℕ) → words_before objects o ≤ sum_by slots_words objects
before-total [] o = omega arith
before-total (p ∷ objects) zero = omega arith
before-total (p ∷ objects) (suc o) = omega (arith, before-total objects o, sum_by-cons slots_words p objects)

inside : (size slots slot i : ℕ) → slot < slots → i < size → size * slot + i < size * slots
inside size slots slot i l m = let r : slot * size + size ≤ slots * size = row_fits slot size slots size l (omega arith) in omega arith

abbrev no_object : ObjPart
no_object = record { name = []; size = 0; slots = 0; first = [] }

-- a slot's word stands before the next object's slots
pub slot_end : (l : Layout) (set : TaskSet) (o slot i : ℕ) → o < length set.objects → slot < (object_at set o).slots → i < (object_at set o).size → slot_place l set o slot + i < slots_at l + words_before set.objects (o + 1)
slot_end l set o slot i a b c = omega (arith, before-more set.objects no_object o a, inside (object_at set o).size (object_at set o).slots slot i b c)

pub slot_place-low : (l : Layout) (set : TaskSet) (o slot i : ℕ) → slots_at l ≤ slot_place l set o slot + i
slot_place-low l set o slot i = omega arith

pub slot_place-high : (l : Layout) (set : TaskSet) (o slot i : ℕ) → o < length set.objects → slot < (object_at set o).slots → i < (object_at set o).size → slot_place l set o slot + i < need l set
slot_place-high l set o slot i a b c = omega (arith, slot_end l set o slot i a b c, before-total set.objects (o + 1))

-- one place is one word of one slot of one object
pub slot_place-apart : (l : Layout) (set : TaskSet) (o p a b i j : ℕ) → o < length set.objects → p < length set.objects → a < (object_at set o).slots → b < (object_at set p).slots → i < (object_at set o).size → j < (object_at set p).size
    → slot_place l set o a + i ≡ slot_place l set p b + j → (o ≡ p) × (a ≡ b) × (i ≡ j)
slot_place-apart l set o p a b i j ho hp ha hb hi hj e = ⊎_elim one (λ n. absurd (two n)) (cases_eq o p)
  where
    one : o ≡ p → (o ≡ p) × (a ≡ b) × (i ≡ j)
    one q =
        let j' : j < (object_at set o).size = rw q hj in
        let f : slot_place l set o a + i ≡ slot_place l set o b + j = e ∙ ap (λ (k : ℕ). slot_place l set k b + j) (sym q) in
        let g : a * (object_at set o).size + i ≡ b * (object_at set o).size + j = omega arith in
        let r = same_from_place a i b j (object_at set o).size hi j' g in
        (q, r.0, r.1)

    two : o ≢ p → ⊥
    two n = ⊎_elim
        (λ m. let d : p ≡ o + 1 + (p - (o + 1)) = omega arith in let k : words_before set.objects (o + 1) ≤ words_before set.objects p = rw d (before-le set.objects (o + 1) (p - (o + 1))) in omega (arith, slot_end l set o a i ho ha hi, k))
        (λ m. let d : o ≡ p + 1 + (o - (p + 1)) = omega arith in let k : words_before set.objects (p + 1) ≤ words_before set.objects o = rw d (before-le set.objects (p + 1) (o - (p + 1))) in omega (arith, slot_end l set p b j hp hb hj, k)) (cases_lt o p)

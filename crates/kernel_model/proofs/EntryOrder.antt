-- The serial order of entries: sorted by point, number and place, and the only order that is.
use Rattle.std.proofs.Common.{Less, Equal, Greater, ◌≡◌, ℕ, zero, suc, ◌+◌, ◌≤◌, ◌<◌, ◌⊎◌, inl, inr, ⊎_elim, Bool, true, false, cond, ltb, eqb, ◌||◌, List, [], ◌∷◌, ◌++◌, length, refl, sym, ap, ap₂, ◌∙◌, subst, add-one, arith, sum_by}
use Rattle.std.specs.Prelude.{◌&&◌}
use Rattle.std.specs.List.{AllByRecursion}
use Rattle.std.specs.Ordering.{is_lt, nat_cmp, ordering_then}
use Rattle.std.specs.List.Sorted.{IsPermutation, IsSortedBy}
use Rattle.std.proofs.lemmas.Bool.{eq-eqb, ne_eqb, eqb-false, cases_eq}
use Rattle.std.proofs.lemmas.Bool.Decides.{nat_tests}
use Rattle.std.proofs.lemmas.List.Elements.{All-from_recursion, recursion_from_All}
use Rattle.std.proofs.lemmas.List.Sums.{sum_by-cons}
use Rattle.std.proofs.lemmas.List.Sorted.{All-permutation, IsPermutation-cons, IsPermutation-middle, IsPermutation-refl, IsPermutation-sym, IsPermutation-to_front, IsPermutation-trans, sum_by-IsPermutation}
use Rattle.kernel_model.specs.Items.{Entry}
use Rattle.kernel_model.specs.EntryReplay.{Place, comes_before, entry_order, in_order, places_from, put_in_order}
use Rattle.object_sets.specs.Pairs.{AllPairsByRecursion}

-- by three numbers, one after another
abbrev lex : (p q m n j k : ℕ) → Bool
lex p q m n j k = ltb p q || (eqb p q && (ltb m n || (eqb m n && ltb j k)))

lex_over : (p q r l m n i j k : ℕ) → lex p q l m i j ≡ true → lex q r m n j k ≡ true → lex p r l n i k ≡ true
lex_over p q r l m n i j k g h = grind (arith, nat_tests)

lex_one : (p q m n j k : ℕ) → lex p q m n j k ≡ true → lex q p n m k j ≡ false
lex_one p q m n j k h = grind (arith, nat_tests)

lex_other : (p q m n j k : ℕ) → (j ≡ k → ⊥) → lex p q m n j k ≡ false → lex q p n m k j ≡ true
lex_other p q m n j k ne h = grind (arith, nat_tests)

by_tests : (a b c d e f : Bool) →
    is_lt (ordering_then (cond a Less (cond b Equal Greater)) (ordering_then (cond c Less (cond d Equal Greater)) (cond e Less (cond f Equal Greater)))) ≡ (a || (b && (c || (d && e))))
by_tests true b c d e f = refl
by_tests false false c d e f = refl
by_tests false true true d e f = refl
by_tests false true false false e f = refl
by_tests false true false true true f = refl
by_tests false true false true false true = refl
by_tests false true false true false false = refl

by_keys : (p q m n j k : ℕ) → is_lt (ordering_then (nat_cmp p q) (ordering_then (nat_cmp m n) (nat_cmp j k))) ≡ lex p q m n j k
by_keys p q m n j k = by_tests (ltb p q) (eqb p q) (ltb m n) (eqb m n) (ltb j k) (eqb j k)

over : (a b c : Place) → comes_before a b ≡ true → comes_before b c ≡ true → comes_before a c ≡ true
over a b c g h = lex_over a.entry.point b.entry.point c.entry.point a.entry.number b.entry.number c.entry.number a.place b.place c.place g h

not_after : (a b : Place) → comes_before a b ≡ true → comes_before b a ≡ false
not_after a b h = lex_one a.entry.point b.entry.point a.entry.number b.entry.number a.place b.place h

or_after : (a b : Place) → (a.place ≡ b.place → ⊥) → comes_before a b ≡ false → comes_before b a ≡ true
or_after a b ne h = lex_other a.entry.point b.entry.point a.entry.number b.entry.number a.place b.place ne h

not_both : (a b : Place) → comes_before a b ≡ true → comes_before b a ≡ true → ⊥
not_both a b g h = let k = not_after a b g in cc (k, h)

pub compare_keys : (a b : Place) → is_lt (ordering_then (nat_cmp a.entry.point b.entry.point) (ordering_then (nat_cmp a.entry.number b.entry.number) (nat_cmp a.place b.place))) ≡ comes_before a b
compare_keys a b = by_keys a.entry.point b.entry.point a.entry.number b.entry.number a.place b.place

-- each comes before all that follow
abbrev pub Ascends : List Place → Type 0
Ascends = AllPairsByRecursion (λ x y. comes_before x y ≡ true)

all_over : (a b : Place) (xs : List Place) → comes_before a b ≡ true → AllByRecursion (λ y. comes_before b y ≡ true) xs → AllByRecursion (λ y. comes_before a y ≡ true) xs
all_over a b [] h k = tt
all_over a b (x ∷ xs) h k = (over a b x h k.0, all_over a b xs h k.1)

-- how often a place occurs
abbrev count : ℕ → List Place → ℕ
count k [] = 0
count k (x ∷ xs) = cond (eqb x.place k) 1 0 + count k xs

count-sum : (k : ℕ) (xs : List Place) → count k xs ≡ sum_by (λ p. cond (eqb p.place k) 1 0) xs
count-sum k [] = refl
count-sum k (x ∷ xs) = ap (λ n. cond (eqb x.place k) 1 0 + n) (count-sum k xs) ∙ sym (sum_by-cons (λ (p : Place). cond (eqb p.place k) 1 0) x xs)

-- no place occurs twice
abbrev pub AreApart : List Place → Type 0
AreApart xs = (k : ℕ) → count k xs ≤ 1

absent : (k : ℕ) (xs : List Place) → count k xs ≡ 0 → AllByRecursion (λ y. k ≡ y.place → ⊥) xs
absent k [] h = tt
absent k (x ∷ xs) h = go (absent k xs) (eqb x.place k) refl h
  where
    go : (count k xs ≡ 0 → AllByRecursion (λ y. k ≡ y.place → ⊥) xs) → (b : Bool) → eqb x.place k ≡ b → cond b 1 0 + count k xs ≡ 0 → AllByRecursion (λ y. k ≡ y.place → ⊥) (x ∷ xs)
    go rest true e h = absurd (omega (arith, h))
    go rest false e h = ((λ f. eqb-false x.place k e (sym f)), rest (omega (arith, h)))

pub apart_first : (x : Place) (xs : List Place) → AreApart (x ∷ xs) → AllByRecursion (λ y. x.place ≡ y.place → ⊥) xs
apart_first x xs h = absent x.place xs (let k : cond (eqb x.place x.place) 1 0 + count x.place xs ≤ 1 = h x.place in let l = rw (eq-eqb x.place x.place refl) at k in omega (arith, l))

pub apart_rest : (x : Place) (xs : List Place) → AreApart (x ∷ xs) → AreApart xs
apart_rest x xs h k = let l : cond (eqb x.place k) 1 0 + count k xs ≤ 1 = h k in omega (arith, l)

pub apart_permutation : (xs ys : List Place) → IsPermutation xs ys → AreApart xs → AreApart ys
apart_permutation xs ys p h k = omega (arith, h k, count-sum k xs, count-sum k ys, sum_by-IsPermutation (λ (p : Place). cond (eqb p.place k) 1 0) xs ys p)

below_none : (k j : ℕ) (entries : List Entry) → k < j → count k (places_from j entries) ≡ 0
below_none k j [] l = refl
below_none k j (e ∷ entries) l = rw (ne_eqb j k (λ f. omega (arith, f, l))) (omega (arith, below_none k (j + 1) entries (omega (arith, l))))

pub places_apart : (j : ℕ) (entries : List Entry) → AreApart (places_from j entries)
places_apart j [] k = omega arith
places_apart j (e ∷ entries) k = go (places_apart (j + 1) entries k) (cases_eq j k)
  where
    go : count k (places_from (j + 1) entries) ≤ 1 → (j ≡ k) ⊎ (j ≡ k → ⊥) → cond (eqb j k) 1 0 + count k (places_from (j + 1) entries) ≤ 1
    go rest (inl e) = rw (eq-eqb j k e) (omega (arith, below_none k (j + 1) entries (omega (arith, e))))
    go rest (inr ne) = rw (ne_eqb j k ne) (omega (arith, rest))

-- putting in order
pub put-all : (P : Place → Type 0) (p : Place) (xs : List Place) → P p → AllByRecursion P xs → AllByRecursion P (put_in_order p xs)
put-all P p [] h k = (h, tt)
put-all P p (x ∷ xs) h k = go (put-all P p xs h k.1) (comes_before p x)
  where
    go : AllByRecursion P (put_in_order p xs) → (b : Bool) → AllByRecursion P (cond b (p ∷ x ∷ xs) (x ∷ put_in_order p xs))
    go rest true = (h, k)
    go rest false = (k.0, rest)

put-ascends : (p : Place) (xs : List Place) → AllByRecursion (λ y. p.place ≡ y.place → ⊥) xs → Ascends xs → Ascends (put_in_order p xs)
put-ascends p [] ne h = (tt, tt)
put-ascends p (x ∷ xs) ne h = go (put-ascends p xs ne.1 h.1) (comes_before p x) refl
  where
    go : Ascends (put_in_order p xs) → (b : Bool) → comes_before p x ≡ b → Ascends (cond b (p ∷ x ∷ xs) (x ∷ put_in_order p xs))
    go rest true e = ((e, all_over p x xs e h.0), h)
    go rest false e = (put-all (λ y. comes_before x y ≡ true) p xs (or_after p x ne.0 e) h.0, rest)

pub put-permutation : (p : Place) (xs : List Place) → IsPermutation (p ∷ xs) (put_in_order p xs)
put-permutation p [] = IsPermutation-refl (p ∷ [])
put-permutation p (x ∷ xs) = go (put-permutation p xs) (comes_before p x)
  where
    go : IsPermutation (p ∷ xs) (put_in_order p xs) → (b : Bool) → IsPermutation (p ∷ x ∷ xs) (cond b (p ∷ x ∷ xs) (x ∷ put_in_order p xs))
    go rest true = IsPermutation-refl (p ∷ x ∷ xs)
    go rest false = IsPermutation-trans (p ∷ x ∷ xs) (x ∷ p ∷ xs) (x ∷ put_in_order p xs) (IsPermutation-sym (x ∷ p ∷ xs) (p ∷ x ∷ xs) (IsPermutation-middle (x ∷ []) p xs)) (IsPermutation-cons x (p ∷ xs) (put_in_order p xs) rest)

pub order-permutation : (xs : List Place) → IsPermutation xs (in_order xs)
order-permutation [] = IsPermutation-refl []
order-permutation (x ∷ xs) = IsPermutation-trans (x ∷ xs) (x ∷ in_order xs) (put_in_order x (in_order xs)) (IsPermutation-cons x xs (in_order xs) (order-permutation xs)) (put-permutation x (in_order xs))

pub permuted-all : (P : Place → Type 0) (xs ys : List Place) → IsPermutation xs ys → AllByRecursion P xs → AllByRecursion P ys
permuted-all P xs ys p h = recursion_from_All P ys (All-permutation P xs ys p (All-from_recursion P xs h))

pub order-ascends : (xs : List Place) → AreApart xs → Ascends (in_order xs)
order-ascends [] h = tt
order-ascends (x ∷ xs) h = put-ascends x (in_order xs) (permuted-all (λ y. x.place ≡ y.place → ⊥) xs (in_order xs) (order-permutation xs) (apart_first x xs h)) (order-ascends xs (apart_rest x xs h))

-- a place is among these
abbrev Has : List Place → Place → Type 0
Has [] z = ⊥
Has (x ∷ xs) z = (x ≡ z) ⊎ Has xs z

has_more : (x : Place) (xs ys : List Place) → AllByRecursion (Has xs) ys → AllByRecursion (Has (x ∷ xs)) ys
has_more x xs [] h = tt
has_more x xs (y ∷ ys) h = (inr h.0, has_more x xs ys h.1)

has_itself : (xs : List Place) → AllByRecursion (Has xs) xs
has_itself [] = tt
has_itself (x ∷ xs) = (inl refl, has_more x xs xs (has_itself xs))

at_has : (P : Place → Type 0) (xs : List Place) (z : Place) → AllByRecursion P xs → Has xs z → P z
at_has P [] z h k = absurd k
at_has P (x ∷ xs) z h k = ⊎_elim (λ e. subst P e h.0) (λ l. at_has P xs z h.1 l) k

-- what is among a first and others and comes after the first is among the others
has_rest : (x : Place) (xs ys : List Place) → AllByRecursion (λ y. comes_before x y ≡ true) ys → AllByRecursion (Has (x ∷ xs)) ys → AllByRecursion (Has xs) ys
has_rest x xs [] a h = tt
has_rest x xs (y ∷ ys) a h = (⊎_elim (λ e. absurd (let k : comes_before x x ≡ true = subst (λ z. comes_before x z ≡ true) (sym e) a.0 in not_both x x k k)) (λ k. k) h.0, has_rest x xs ys a.1 h.1)

-- two ascending lists of the same places are one
one_order : (xs ys : List Place) → Ascends xs → Ascends ys → AllByRecursion (Has ys) xs → AllByRecursion (Has xs) ys → xs ≡ ys
one_order [] [] a b g h = refl
one_order [] (y ∷ ys) a b g h = absurd h.0
one_order (x ∷ xs) [] a b g h = absurd g.0
one_order (x ∷ xs) (y ∷ ys) a b g h = ap₂ (λ (z : Place) (zs : List Place). z ∷ zs) (sym same) (one_order xs ys a.1 b.1 xs_there ys_there)
  where
    same : y ≡ x
    same = ⊎_elim (λ e. e) (λ l. ⊎_elim sym (λ m. absurd (not_both y x (at_has (λ z. comes_before y z ≡ true) ys x b.0 l) (at_has (λ z. comes_before x z ≡ true) xs y a.0 m))) h.0) g.0

    xs_there : AllByRecursion (Has ys) xs
    xs_there = has_rest x ys xs a.0 (subst (λ z. AllByRecursion (Has (z ∷ ys)) xs) same g.1)

    ys_there : AllByRecursion (Has xs) ys
    ys_there = has_rest y xs ys b.0 (subst (λ z. AllByRecursion (Has (z ∷ xs)) ys) (sym same) h.1)

pub sorted_order : (xs ys : List Place) → Ascends xs → Ascends ys → IsPermutation xs ys → xs ≡ ys
sorted_order xs ys a b p =
    one_order xs ys a b (permuted-all (Has ys) ys xs (IsPermutation-sym xs ys p) (has_itself ys)) (permuted-all (Has xs) xs ys p (has_itself xs))

-- std's word for sorted
adjacent : (x : Place) (xs : List Place) → IsSortedBy comes_before (x ∷ xs) → IsSortedBy comes_before xs
adjacent x xs h k d z l = let e = h (suc k) d (omega (arith, z)) (omega (arith, l)) in rw add-one (rw add-one at e)

pub ascends_sorted : (xs : List Place) → AreApart xs → IsSortedBy comes_before xs → Ascends xs
ascends_sorted [] n h = tt
ascends_sorted (x ∷ []) n h = (tt, tt)
ascends_sorted (x ∷ y ∷ ys) n h =
    let rest = ascends_sorted (y ∷ ys) (apart_rest x (y ∷ ys) n) (adjacent x (y ∷ ys) h) in
    let first : comes_before x y ≡ true = or_after y x (λ e. (apart_first x (y ∷ ys) n).0 (sym e)) (h 0 x (omega arith) (omega arith)) in
    ((first, all_over x y ys first rest.0), rest)

pub sorted_ascends : (xs : List Place) → Ascends xs → IsSortedBy comes_before xs
sorted_ascends [] a k d z l = absurd (omega (arith, l))
sorted_ascends (x ∷ []) a k d z l = absurd (omega (arith, l))
sorted_ascends (x ∷ y ∷ ys) a zero d z l = not_after x y a.0.0
sorted_ascends (x ∷ y ∷ ys) a (suc k) d z l = let e = sorted_ascends (y ∷ ys) a.1 k d (omega arith) (omega (arith, l)) in rw add-one (rw add-one at e)

places-append : (j : ℕ) (xs : List Entry) (e : Entry) → places_from j (xs ++ e ∷ []) ≡ places_from j xs ++ (let p : Place = record { place = j + length xs; entry = e } in p) ∷ []
places-append j [] e = let z : j ≡ j + 0 = omega arith in ap (λ (n : ℕ). (let p : Place = record { place = n; entry = e } in p) ∷ []) z
places-append j (x ∷ xs) e =
    let z : j + 1 + length xs ≡ j + length (x ∷ xs) = omega arith in
    ap (λ (ps : List Place). (let p : Place = record { place = j; entry = x } in p) ∷ ps)
    (places-append (j + 1) xs e ∙ ap (λ (n : ℕ). places_from (j + 1) xs ++ (let p : Place = record { place = n; entry = e } in p) ∷ []) z)

-- all places are below the length
places_below : (j n : ℕ) (entries : List Entry) → j + length entries ≤ n → AllByRecursion (λ p. p.place < n) (places_from j entries)
places_below j n [] l = tt
places_below j n (e ∷ entries) l = (omega (arith, l), places_below (j + 1) n entries (omega (arith, l)))

pub order_below : (entries : List Entry) → AllByRecursion (λ p. p.place < length entries) (entry_order entries)
order_below entries = permuted-all (λ p. p.place < length entries) (places_from 0 entries) (entry_order entries) (order-permutation (places_from 0 entries)) (places_below 0 (length entries) entries (omega arith))

-- one more entry at the end of a listing is put in order
pub order_last : (xs : List Entry) (e : Entry) → entry_order (xs ++ e ∷ []) ≡ put_in_order (record { place = length xs; entry = e }) (entry_order xs)
order_last xs e = ap in_order last ∙ sorted_order (in_order (places_from 0 xs ++ p ∷ [])) (put_in_order p (entry_order xs)) (order-ascends (places_from 0 xs ++ p ∷ []) apart) put same
  where
    p : Place
    p = record { place = length xs; entry = e }

    last : places_from 0 (xs ++ e ∷ []) ≡ places_from 0 xs ++ p ∷ []
    last = let z : 0 + length xs ≡ length xs = omega arith in places-append 0 xs e ∙ ap (λ (n : ℕ). places_from 0 xs ++ (let p : Place = record { place = n; entry = e } in p) ∷ []) z

    apart : AreApart (places_from 0 xs ++ p ∷ [])
    apart = subst AreApart last (places_apart 0 (xs ++ e ∷ []))

    front : IsPermutation (places_from 0 xs ++ p ∷ []) (p ∷ places_from 0 xs)
    front = IsPermutation-to_front (places_from 0 xs) p

    put : Ascends (put_in_order p (entry_order xs))
    put =
        put-ascends p (entry_order xs)
        (permuted-all (λ y. p.place ≡ y.place → ⊥) (places_from 0 xs) (entry_order xs) (order-permutation (places_from 0 xs)) (apart_first p (places_from 0 xs) (apart_permutation (places_from 0 xs ++ p ∷ []) (p ∷ places_from 0 xs) front apart)))
        (order-ascends (places_from 0 xs) (places_apart 0 xs))

    same : IsPermutation (in_order (places_from 0 xs ++ p ∷ [])) (put_in_order p (entry_order xs))
    same =
        IsPermutation-trans (in_order (places_from 0 xs ++ p ∷ [])) (places_from 0 xs ++ p ∷ []) (put_in_order p (entry_order xs))
        (IsPermutation-sym (places_from 0 xs ++ p ∷ []) (in_order (places_from 0 xs ++ p ∷ [])) (order-permutation (places_from 0 xs ++ p ∷ [])))
        (IsPermutation-trans (places_from 0 xs ++ p ∷ []) (p ∷ places_from 0 xs) (put_in_order p (entry_order xs)) front
        (IsPermutation-trans (p ∷ places_from 0 xs) (p ∷ entry_order xs) (put_in_order p (entry_order xs)) (IsPermutation-cons p (places_from 0 xs) (entry_order xs) (order-permutation (places_from 0 xs))) (put-permutation p (entry_order xs))))

-- what sorts a listing
pub order_sorts : (entries : List Entry) → IsPermutation (places_from 0 entries) (entry_order entries) × IsSortedBy comes_before (entry_order entries)
order_sorts entries = (order-permutation (places_from 0 entries), sorted_ascends (entry_order entries) (order-ascends (places_from 0 entries) (places_apart 0 entries)))

pub sorts_order : (entries : List Entry) (sorted : List Place) → IsPermutation (places_from 0 entries) sorted → IsSortedBy comes_before sorted → sorted ≡ entry_order entries
sorts_order entries sorted p h =
    sym (sorted_order (entry_order entries) sorted (order-ascends (places_from 0 entries) (places_apart 0 entries))
    (ascends_sorted sorted (apart_permutation (places_from 0 entries) sorted p (places_apart 0 entries)) h)
    (IsPermutation-trans (entry_order entries) (places_from 0 entries) sorted (IsPermutation-sym (places_from 0 entries) (entry_order entries) (order-permutation (places_from 0 entries))) p))

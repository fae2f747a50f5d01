-- The turns of a listing, and their order.
use Rattle.std.proofs.Common.{◌≡◌, take_all, ℕ, zero, suc, ◌+◌, ◌≤◌, ◌<◌, List, [], ◌∷◌, ◌++◌, length, map, take, get_or, drop, refl, sym, ap, ap₂, ◌∙◌, subst, arith}
use Rattle.std.specs.List.{All, AllByRecursion, enumerate_from}
use Rattle.std.specs.List.Sorted.{IsPermutation, IsSorted, IsSortedBy}
use Rattle.std.specs.Ordering.{is_lt, nat_cmp, ordering_then}
use Rattle.std.specs.declared.cmp.Ordering.{Ordering}
use Rattle.std.proofs.lemmas.List.{get_or-map, length-map, length-take-le, map-append, take_more}
use Rattle.std.proofs.lemmas.List.FromFn.{length-enumerate_from}
use Rattle.std.proofs.lemmas.List.Elements.{All-from_recursion}
use Rattle.std.proofs.lemmas.List.Sorted.{All-permutation, IsPermutation-map}
use Rattle.kernel_model.specs.Items.{Entry}
use Rattle.kernel_model.specs.EntryReplay.{Place, comes_before, entry_order, places_from}
use Rattle.nv_base.specs.declared.lines.Entry as base
use Rattle.set_model.specs.Views.{entry_of}
use Rattle.task_model.specs.Turns.{IsTurnOf, entry_at, place_at}
use Rattle.task_model.specs.declared.turns.Turn.{Turn}

-- the turn of an entry at a place
abbrev pub turn_of : ℕ × base.Entry → Turn
turn_of p = record { point = p.1.point; number = p.1.number; place = p.0 }

enumerate_more : (n : ℕ) (xs : List base.Entry) (x : base.Entry) → enumerate_from n (xs ++ x ∷ []) ≡ enumerate_from n xs ++ (n + length xs, x) ∷ []
enumerate_more n [] x = ap (λ k. (k, x) ∷ []) (let e : n ≡ n + 0 = omega arith in e)
enumerate_more n (y ∷ xs) x = ap (λ rest. (n, y) ∷ rest) (enumerate_more (n + 1) xs x ∙ ap (λ k. enumerate_from (n + 1) xs ++ (k, x) ∷ []) (let e : n + 1 + length xs ≡ n + suc (length xs) = omega arith in e))

-- one turn more
pub turn_more : (items : List Turn) (listing : List base.Entry) (i : ℕ) (d : base.Entry) → i < length listing → items ≡ map turn_of (enumerate_from 0 (take i listing)) → items ++ turn_of (i, get_or listing i d) ∷ [] ≡ map turn_of (enumerate_from 0 (take (i + 1) listing))
turn_more items listing i d l h =
    let x = get_or listing i d in
    let count : 0 + length (take i listing) ≡ i = omega (arith, length-take-le i listing (omega (arith, l))) in
    let more : map turn_of (enumerate_from 0 (take (i + 1) listing)) ≡ map turn_of (enumerate_from 0 (take i listing)) ++ turn_of (i, x) ∷ [] =
    ap (λ es. map turn_of (enumerate_from 0 es)) (take_more listing i d l) ∙ ap (map turn_of) (enumerate_more 0 (take i listing) x) ∙ map-append turn_of (enumerate_from 0 (take i listing)) ((0 + length (take i listing), x) ∷ [])
    ∙ ap (λ n. map turn_of (enumerate_from 0 (take i listing)) ++ turn_of (n, x) ∷ []) count in
    ap (λ ts. ts ++ turn_of (i, x) ∷ []) h ∙ sym more

-- what stands at a place
pub record StandsAt (entries : List Entry) (n : ℕ) (x : Entry) (rest : List Entry) : Type 0 where
  pub inside : n < length entries
  pub here : entry_at entries n ≡ x
  pub later : drop (n + 1) entries ≡ rest

stands_at : (entries : List Entry) (n : ℕ) (x : Entry) (rest : List Entry) → drop n entries ≡ x ∷ rest → StandsAt entries n x rest
stands_at [] zero x rest e = absurd (cc e)
stands_at [] (suc n) x rest e = absurd (cc e)
stands_at (y ∷ entries) zero x rest e = record { inside = omega arith; here = cc e; later = cc e }
stands_at (y ∷ entries) (suc n) x rest e = let s = stands_at entries n x rest e in record { inside = omega (arith, s.inside); here = s.here; later = let z : suc n + 1 ≡ suc (n + 1) = omega arith in rw z s.later }

placed_from : (entries : List Entry) (n : ℕ) (rest : List base.Entry) → drop n entries ≡ map entry_of rest → map (place_at entries) (map turn_of (enumerate_from n rest)) ≡ places_from n (map entry_of rest)
placed_from entries n [] e = refl
placed_from entries n (x ∷ rest) e =
    let s = stands_at entries n (entry_of x) (map entry_of rest) e in
    let at : Entry → Place = λ y. record { place = n; entry = y } in
    ap (λ y. at y ∷ map (place_at entries) (map turn_of (enumerate_from (n + 1) rest))) s.here ∙ ap (λ ps. at (entry_of x) ∷ ps) (placed_from entries (n + 1) rest s.later)

turns_from : (entries : List Entry) (n : ℕ) (rest : List base.Entry) → drop n entries ≡ map entry_of rest → AllByRecursion (IsTurnOf entries) (map turn_of (enumerate_from n rest))
turns_from entries n [] e = tt
turns_from entries n (x ∷ rest) e =
    let s = stands_at entries n (entry_of x) (map entry_of rest) e in
    (record { inside = s.inside; point = ap (λ (y : Entry). y.point) (sym s.here); number = ap (λ (y : Entry). y.number) (sym s.here) }, turns_from entries (n + 1) rest s.later)

whole : (items : List Turn) (listing : List base.Entry) (n : ℕ) → length listing ≤ n → items ≡ map turn_of (enumerate_from 0 (take n listing)) → items ≡ map turn_of (enumerate_from 0 listing)
whole items listing n l h = h ∙ ap (λ es. map turn_of (enumerate_from 0 es)) (take_all n listing l)

pub all_placed : (items : List Turn) (listing : List base.Entry) (n : ℕ) → length listing ≤ n → items ≡ map turn_of (enumerate_from 0 (take n listing)) → map (place_at (map entry_of listing)) items ≡ places_from 0 (map entry_of listing)
all_placed items listing n l h = ap (map (place_at (map entry_of listing))) (whole items listing n l h) ∙ placed_from (map entry_of listing) 0 listing refl

pub all_turns : (items : List Turn) (listing : List base.Entry) (n : ℕ) → length listing ≤ n → items ≡ map turn_of (enumerate_from 0 (take n listing)) → All (IsTurnOf (map entry_of listing)) items
all_turns items listing n l h =
    let entries = map entry_of listing in
    subst (All (IsTurnOf entries)) (sym (whole items listing n l h)) (All-from_recursion (IsTurnOf entries) (map turn_of (enumerate_from 0 listing)) (turns_from entries 0 listing refl))

pub all_many : (items : List Turn) (listing : List base.Entry) (n : ℕ) → length listing ≤ n → items ≡ map turn_of (enumerate_from 0 (take n listing)) → length items ≡ length listing
all_many items listing n l h = ap length (whole items listing n l h) ∙ length-map (enumerate_from 0 listing) turn_of ∙ length-enumerate_from 0 listing

-- sorted turns name the entries in serial order
abbrev pub turn_cmp : Turn → Turn → Ordering
turn_cmp a b = ordering_then (nat_cmp a.point.0 b.point.0) (ordering_then (nat_cmp a.number.0 b.number.0) (nat_cmp a.place b.place))

-- what the kernel's model says of the keys, and of what sorts by them
abbrev pub KeysLaw : Type 0
KeysLaw = (a b : Place) → (let ties = ordering_then (nat_cmp a.entry.number b.entry.number) (nat_cmp a.place b.place) in is_lt (ordering_then (nat_cmp a.entry.point b.entry.point) ties) ≡ comes_before a b)

abbrev pub SortedLaw : Type 0
SortedLaw = (entries : List Entry) (sorted : List Place) → IsPermutation (places_from 0 entries) sorted → IsSortedBy comes_before sorted → sorted ≡ entry_order entries

compared : KeysLaw → (entries : List Entry) (a b : Turn) → IsTurnOf entries a → IsTurnOf entries b → comes_before (place_at entries a) (place_at entries b) ≡ is_lt (turn_cmp a b)
compared law entries a b h k =
    sym (law (place_at entries a) (place_at entries b))
    ∙ rw (← h.point, ← k.point, ← h.number, ← k.number) refl

pub in_order : KeysLaw → SortedLaw → (entries : List Entry) (items sorted : List Turn) → map (place_at entries) items ≡ places_from 0 entries → All (IsTurnOf entries) items → IsPermutation items sorted → IsSorted turn_cmp sorted → map (place_at entries) sorted ≡ entry_order entries
in_order keys law entries items sorted e h p s = law entries (map (place_at entries) sorted) moved up
  where
    P : List Place → Type 0
    P ps = IsPermutation ps (map (place_at entries) sorted)

    moved : IsPermutation (places_from 0 entries) (map (place_at entries) sorted)
    moved = subst P e (IsPermutation-map (place_at entries) items sorted p)

    each : All (IsTurnOf entries) sorted
    each = All-permutation (IsTurnOf entries) items sorted p h

    first : Turn
    first = record { point = record { 0 = 0 }; number = record { 0 = 0 }; place = 0 }

    up : IsSortedBy comes_before (map (place_at entries) sorted)
    up k d low high =
        let inside : k + 1 < length sorted = omega (arith, high, length-map sorted (place_at entries)) in
        let near : k < length sorted = omega (arith, inside) in
        ap₂ comes_before (get_or-map (place_at entries) sorted (k + 1) first d inside) (get_or-map (place_at entries) sorted k first d near)
        ∙ compared keys entries (get_or sorted (k + 1) first) (get_or sorted k first) (each (k + 1) first inside) (each k first near)
        ∙ s k first (omega arith) inside

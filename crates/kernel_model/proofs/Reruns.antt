-- A history in serial order, with the places of its listing.
use Rattle.std.proofs.Common.{◌≡◌, ℕ, ◌<◌, Bool, true, false, cond, ltb, eqb, ◌||◌, List, [], ◌∷◌, length, length-append, refl, sym, ap, ◌∙◌, arith}
use Rattle.std.specs.Prelude.{◌&&◌, map}
use Rattle.std.specs.List.{AllByRecursion}
use Rattle.std.proofs.lemmas.Bool.{le-ltb}
use Rattle.kernel_model.specs.Items.{FinishRecord, entry_of, listing, placed, precedes, serial_order}
use Rattle.kernel_model.specs.EntryReplay.{Place, Rerun, entry_order, put_in_order}
use Rattle.kernel_model.proofs.EntryOrder.{order_last}

-- the place of a finish
abbrev pub place_of : Rerun → Place
place_of r = record { place = r.place; entry = entry_of r.item }

abbrev pub spawns_of : Rerun → ℕ
spawns_of r = length r.item.run.spawns

-- a history in serial order, with the places of its listing
unfoldable pub put_rerun : Rerun → List Rerun → List Rerun
put_rerun r [] = r ∷ []
put_rerun r (x ∷ xs) = cond (precedes r.item x.item) (r ∷ x ∷ xs) (x ∷ put_rerun r xs)

unfoldable pub reruns_of : List FinishRecord → List Rerun
reruns_of [] = []
reruns_of (i ∷ history) = put_rerun (record { place = length history; item = i }) (reruns_of history)

pub put_rerun-all : (P : Rerun → Type 0) (r : Rerun) (xs : List Rerun) → P r → AllByRecursion P xs → AllByRecursion P (put_rerun r xs)
unfolding put_rerun
put_rerun-all P r [] h k = (h, tt)
put_rerun-all P r (x ∷ xs) h k = go (put_rerun-all P r xs h k.1) (precedes r.item x.item)
  where
    go : AllByRecursion P (put_rerun r xs) → (b : Bool) → AllByRecursion P (cond b (r ∷ x ∷ xs) (x ∷ put_rerun r xs))
    go rest true = (h, k)
    go rest false = (k.0, rest)

-- the items of it
items-put : (r : Rerun) (xs : List Rerun) → map (λ r. r.item) (put_rerun r xs) ≡ placed r.item (map (λ r. r.item) xs)
unfolding put_rerun
items-put r [] = refl
items-put r (x ∷ xs) = go (items-put r xs) (precedes r.item x.item)
  where
    go : map (λ r. r.item) (put_rerun r xs) ≡ placed r.item (map (λ r. r.item) xs) → (b : Bool) →
        map (λ r. r.item) (cond b (r ∷ x ∷ xs) (x ∷ put_rerun r xs)) ≡ cond b (r.item ∷ x.item ∷ map (λ r. r.item) xs) (x.item ∷ placed r.item (map (λ r. r.item) xs))
    go rest true = refl
    go rest false = ap (λ (is : List FinishRecord). x.item ∷ is) rest

pub items-reruns : (history : List FinishRecord) → map (λ r. r.item) (reruns_of history) ≡ serial_order history
unfolding reruns_of
items-reruns [] = refl
items-reruns (i ∷ history) = items-put (record { place = length history; item = i }) (reruns_of history) ∙ ap (placed i) (items-reruns history)

-- the places of it
pub reruns_below : (history : List FinishRecord) → AllByRecursion (λ r. r.place < length history) (reruns_of history)
unfolding reruns_of
reruns_below [] = tt
reruns_below (i ∷ history) = put_rerun-all (λ r. r.place < length (i ∷ history)) (record { place = length history; item = i }) (reruns_of history) (omega arith) (below (reruns_of history) (reruns_below history))
  where
    below : (xs : List Rerun) → AllByRecursion (λ r. r.place < length history) xs → AllByRecursion (λ r. r.place < length (i ∷ history)) xs
    below [] h = tt
    below (x ∷ xs) h = (omega (arith, h.0), below xs h.1)

same_test : (p q m n j k : ℕ) → k < j → (ltb p q || (eqb p q && (ltb m n || (eqb m n && ltb j k)))) ≡ (ltb p q || (eqb p q && ltb m n))
same_test p q m n j k l = rw (le-ltb j k (omega arith)) (elim (ltb p q) as (λ a. (a || (eqb p q && (ltb m n || (eqb m n && false)))) ≡ (a || (eqb p q && ltb m n))) [
  | true ↦ refl
  | false ↦ elim (eqb p q) as (λ b. (b && (ltb m n || (eqb m n && false))) ≡ (b && ltb m n)) [
    | false ↦ refl
    | true ↦ elim (ltb m n) as (λ c. (c || (eqb m n && false)) ≡ c) [ true ↦ refl | false ↦ elim (eqb m n) as (λ d. (d && false) ≡ false) [ true ↦ refl | false ↦ refl ] ]
  ]
])

places-put : (r : Rerun) (xs : List Rerun) → AllByRecursion (λ x. x.place < r.place) xs → map place_of (put_rerun r xs) ≡ put_in_order (place_of r) (map place_of xs)
unfolding put_rerun
places-put r [] h = refl
places-put r (x ∷ xs) h = rw (same_test r.item.point x.item.point r.item.number x.item.number r.place x.place h.0) (go (places-put r xs h.1) (precedes r.item x.item))
  where
    go : map place_of (put_rerun r xs) ≡ put_in_order (place_of r) (map place_of xs) → (b : Bool) →
        map place_of (cond b (r ∷ x ∷ xs) (x ∷ put_rerun r xs)) ≡ cond b (place_of r ∷ place_of x ∷ map place_of xs) (place_of x ∷ put_in_order (place_of r) (map place_of xs))
    go rest true = refl
    go rest false = ap (λ (ps : List Place). place_of x ∷ ps) rest

pub length-listing : (history : List FinishRecord) → length (listing history) ≡ length history
length-listing [] = refl
length-listing (i ∷ history) = omega (arith, length-append (listing history) (entry_of i ∷ []), length-listing history)

pub places-reruns : (history : List FinishRecord) → map place_of (reruns_of history) ≡ entry_order (listing history)
unfolding reruns_of
places-reruns [] = refl
places-reruns (i ∷ history) =
    places-put (record { place = length history; item = i }) (reruns_of history) (reruns_below history)
    ∙ ap (put_in_order (record { place = length history; entry = entry_of i })) (places-reruns history)
    ∙ ap (λ (n : ℕ). put_in_order (record { place = n; entry = entry_of i }) (entry_order (listing history))) (sym (length-listing history))
    ∙ sym (order_last (listing history) (entry_of i))

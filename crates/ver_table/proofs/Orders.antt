-- Slots in their order, and the versions that they hold.
use Rattle.std.proofs.Common.{◌≡◌, ℕ, zero, suc, ◌<◌, Bool, true, false, cond, eqb, ◌||◌, ◌&&◌, List, [], ◌∷◌, length, get_or, map, Option, Some, None, refl, sym, ap, ◌∙◌, subst, arith}
use Rattle.std.specs.Prelude.{find, is_some, IsSome}
use Rattle.std.specs.List.{list_any}
use Rattle.std.specs.Option.{option_map}
use Rattle.std.proofs.lemmas.Bool.{eqb-true}
use Rattle.nv_base.specs.declared.ids.Point.{Point}
use Rattle.ver_table.specs.Chains.{Place, in_slot}
use Rattle.ver_table.specs.Slots.{AreSlots, stored_at}

pub slots_below : (n : ℕ) (ks : List ℕ) → AreSlots n ks → (i : ℕ) → i < length ks → get_or ks i 0 < n
slots_below n [] s i l = absurd (omega (arith, l))
slots_below n (k ∷ ks) s zero l = s.0
slots_below n (k ∷ ks) s (suc i) l = slots_below n ks s.2 i (omega (arith, l))

pub find-map : {A B : Type 0} → (p : B → Bool) (f : A → B) (xs : List A) → find p (map f xs) ≡ option_map f (find (λ x. p (f x)) xs)
find-map p f [] = refl
find-map {A} {B} p f (x ∷ xs) = at (p (f x)) (find-map p f xs)
  where
    at : (b : Bool) → find p (map f xs) ≡ option_map f (find (λ y. p (f y)) xs) → cond b (Some (f x)) (find p (map f xs)) ≡ option_map f (cond b (Some x) (find (λ y. p (f y)) xs))
    at true e = refl
    at false e = e

-- what an option has
pub some_of : {A : Type 0} → (o : Option A) → IsSome o → (x : A) × (o ≡ Some x)
some_of None s = absurd (cc s)
some_of (Some x) s = (x, refl)

-- one that is found by its number is that number, and is below
pub found_below : (n k : ℕ) (ks : List ℕ) → AreSlots n ks → (j : ℕ) → find (λ i. eqb i k) ks ≡ Some j → (j ≡ k) × (k < n)
found_below n k [] s j e = absurd (cc e)
found_below n k (i ∷ ks) s j e = at (found_below n k ks s.2 j) (eqb i k) refl e
  where
    at : (find (λ i. eqb i k) ks ≡ Some j → (j ≡ k) × (k < n)) → (b : Bool) → eqb i k ≡ b → cond b (Some i) (find (λ i. eqb i k) ks) ≡ Some j → (j ≡ k) × (k < n)
    at rest true f e = let same : i ≡ k = eqb-true i k f in let is : i ≡ j = cc e in (cc (same, is), subst (λ (x : ℕ). x < n) same s.0)
    at rest false f e = rest e

-- any that is found is below
pub any_below : (n : ℕ) (p : ℕ → Bool) (ks : List ℕ) → AreSlots n ks → (j : ℕ) → find p ks ≡ Some j → j < n
any_below n p [] s j e = absurd (cc e)
any_below n p (i ∷ ks) s j e = at (any_below n p ks s.2 j) (p i) e
  where
    at : (find p ks ≡ Some j → j < n) → (b : Bool) → cond b (Some i) (find p ks) ≡ Some j → j < n
    at rest true e = let is : i ≡ j = cc e in subst (λ (x : ℕ). x < n) is s.0
    at rest false e = rest e

-- the version in a slot is what the slot has
pub in_slot_is : (begins : List Point) (ends : List (Option Point)) (n k : ℕ) (ks : List ℕ) → AreSlots n ks → (v : Place) → in_slot k (map (stored_at begins ends) ks) ≡ Some v → (v ≡ stored_at begins ends k) × (k < n)
in_slot_is begins ends n k ks s v e = at (find (λ i. eqb i k) ks) refl (sym (find-map (λ (u : Place). eqb u.slot k) (stored_at begins ends) ks) ∙ e)
  where
    at : (o : Option ℕ) → find (λ i. eqb i k) ks ≡ o → option_map (stored_at begins ends) o ≡ Some v → (v ≡ stored_at begins ends k) × (k < n)
    at None f e = absurd (cc e)
    at (Some j) f e =
        let found = found_below n k ks s j f in
        let is : stored_at begins ends j ≡ v = cc e in
        (sym is ∙ ap (stored_at begins ends) found.0, found.1)

-- one of the slots is k, and what it holds passes, where k is among them and its version passes
pub any_at : (begins : List Point) (ends : List (Option Point)) (p : Place → Bool) (k : ℕ) (ks : List ℕ) → list_any (λ (u : Place). eqb u.slot k && p u) (map (stored_at begins ends) ks) ≡ (list_any (λ j. eqb j k) ks && p (stored_at begins ends k))
any_at begins ends p k [] = refl
any_at begins ends p k (j ∷ ks) = at (eqb j k) refl (any_at begins ends p k ks)
  where
    rest : Bool
    rest = list_any (λ (u : Place). eqb u.slot k && p u) (map (stored_at begins ends) ks)

    pick : (b c : Bool) → ((b || (c && b))) ≡ b
    pick true c = refl
    pick false true = refl
    pick false false = refl

    at : (b : Bool) → eqb j k ≡ b → rest ≡ (list_any (λ j. eqb j k) ks && p (stored_at begins ends k)) → ((b && p (stored_at begins ends j)) || rest) ≡ ((b || list_any (λ j. eqb j k) ks) && p (stored_at begins ends k))
    at true f e =
        let same : j ≡ k = eqb-true j k f in
        ap (λ (b : Bool). p (stored_at begins ends j) || b) e ∙ ap (λ (i : ℕ). p (stored_at begins ends i) || (list_any (λ j. eqb j k) ks && p (stored_at begins ends k))) same ∙ pick (p (stored_at begins ends k)) (list_any (λ j. eqb j k) ks)
    at false f e = e

-- lives that meet one of the program's intervals meet it in plain numbers
pub any-map : {A B : Type 0} → (p : B → Bool) (f : A → B) (xs : List A) → list_any p (map f xs) ≡ list_any (λ x. p (f x)) xs
any-map p f [] = refl
any-map p f (x ∷ xs) = ap (λ (b : Bool). p (f x) || b) (any-map p f xs)

-- with one slot more in front that is another
pub any_front : (k0 k : ℕ) (ks : List ℕ) → eqb k0 k ≡ false → list_any (λ j. eqb j k) (k0 ∷ ks) ≡ list_any (λ j. eqb j k) ks
any_front k0 k ks e = rw e refl

-- some are found where any passes
pub any-find : {A : Type 0} → (p : A → Bool) (xs : List A) → list_any p xs ≡ is_some (find p xs)
any-find p [] = refl
any-find {A} p (x ∷ xs) = at (p x) (any-find p xs)
  where
    at : (b : Bool) → list_any p xs ≡ is_some (find p xs) → (b || list_any p xs) ≡ is_some (cond b (Some x) (find p xs))
    at true e = refl
    at false e = e

pub is_some-map : {A B : Type 0} → (f : A → B) (o : Option A) → is_some (option_map f o) ≡ is_some o
is_some-map f None = refl
is_some-map f (Some x) = refl

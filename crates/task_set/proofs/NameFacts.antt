-- Names: what one is, and lists of different ones as they grow.
use Rattle.std.proofs.Common.{◌≡◌, ◌≢◌, ℕ, zero, suc, ◌+◌, ◌<◌, ◌≤◌, Bool, true, false, not, cond, ◌||◌, MatchBool, List, [], ◌∷◌, ◌++◌, length, get_or, take, map, refl, sym, ◌∙◌, ap, subst, Bor}
use Rattle.std.specs.List.{AllByRecursion, list_all, list_any}
use Rattle.std.specs.Bool.{Decides}
use Rattle.std.specs.Char.{is_ascii_digit}
use Rattle.std.proofs.lemmas.List.{map_push, take_more, take_all}
use Rattle.std.proofs.lemmas.List.Sums.{AllPass-from_list_all, list_all-from_AllPass}
use Rattle.nv_base.specs.declared.limits.TheConstants.{MAX_NAME}
use Rattle.set_model.specs.Limits.{IsWithin}
use Rattle.set_model.specs.Names.{AreDistinct, AreNames, IsName, is_name_byte}
use Rattle.set_model.proofs.ForCallers.{distinct_with}
use Rattle.task_set.proofs.WordFacts.{all_last}
use Rattle.nv_base.proofs.ForCallers.{all_with}

others_than_last : (xs : List (List ℕ)) (y : List ℕ) → AreDistinct (xs ++ y ∷ []) → AllByRecursion (λ x. x ≢ y) xs
others_than_last [] y d = tt
others_than_last (x ∷ xs) y d = (all_last (λ later. x ≢ later) xs y d.0, others_than_last xs y d.1)

-- a test that tells whether two names are the same
abbrev Tells : (Bor (List ℕ) → Bor (List ℕ) → Bool) → Type 0
Tells same = (a b : Bor (List ℕ)) → Decides (same a b) (a.now ≡ b.now)

other : (b : Bool) (x y : List ℕ) → Decides b (x ≡ y) → b ≡ false → y ≢ x
other b x y d e = λ g. let f : true ≡ false = sym (d.1 (sym g)) ∙ e in cc

none_found_more : (b c : Bool) (name k : List ℕ) (keys : List (Bor (List ℕ))) → Decides b (name ≡ k) → (b || c) ≡ false → (c ≡ false → AllByRecursion (λ x. x ≢ name) (map (λ n. n.now) keys))
    → AllByRecursion (λ x. x ≢ name) (k ∷ map (λ n. n.now) keys)
none_found_more true c name k keys d e h = let i : true ≡ false = e in absurd (cc)
none_found_more false c name k keys d e h = (other false name k d refl, h e)

none_found : (same : Bor (List ℕ) → Bor (List ℕ) → Bool) → Tells same → (name : Bor (List ℕ)) (keys : List (Bor (List ℕ))) → list_any (same name) keys ≡ false
    → AllByRecursion (λ x. x ≢ name.now) (map (λ n. n.now) keys)
none_found same tells name [] e = tt
none_found same tells name (k ∷ keys) e =
    none_found_more (same name k) (list_any (same name) keys) name.now k.now keys (tells name k) e (λ h. none_found same tells name keys h)

one_found_more : (b c : Bool) (name k : List ℕ) (keys : List (Bor (List ℕ))) → Decides b (name ≡ k) → (b || c) ≡ true → (c ≡ true → AllByRecursion (λ x. x ≢ name) (map (λ n. n.now) keys) → ⊥)
    → AllByRecursion (λ x. x ≢ name) (k ∷ map (λ n. n.now) keys) → ⊥
one_found_more true c name k keys d e h all = all.0 (sym (d.0 refl))
one_found_more false c name k keys d e h all = h e all.1

one_found : (same : Bor (List ℕ) → Bor (List ℕ) → Bool) → Tells same → (name : Bor (List ℕ)) (keys : List (Bor (List ℕ))) → list_any (same name) keys ≡ true
    → AllByRecursion (λ x. x ≢ name.now) (map (λ n. n.now) keys) → ⊥
one_found same tells name [] e h = let i : false ≡ true = e in cc
one_found same tells name (k ∷ keys) e h =
    one_found_more (same name k) (list_any (same name) keys) name.now k.now keys (tells name k) e (λ g. one_found same tells name keys g) h

abbrev Takes : List (Bor (List ℕ)) → List (Bor (List ℕ)) → Bor (List ℕ) → Bool → Type 0
Takes old new name r =
    MatchBool r (AreNames (map (λ n. n.now) new)) (AreNames (map (λ n. n.now) old ++ name.now ∷ []) → ⊥)

named_with : (names : List (List ℕ)) (name : List ℕ) → AreNames names → IsName name → AllByRecursion (λ x. x ≢ name) names → AreNames (names ++ name ∷ [])
named_with names name h n d = record { each = all_with IsName names name h.each n; once = distinct_with names name h.once d }

pub name_is_taken : (same : Bor (List ℕ) → Bor (List ℕ) → Bool) → Tells same → (old new : List (Bor (List ℕ))) (name : Bor (List ℕ)) (r : Bool)
    → IsName name.now → AreNames (map (λ n. n.now) old) → r ≡ not (list_any (same name) old) → new ≡ cond (list_any (same name) old) old (old ++ name ∷ [])
    → Takes old new name r
name_is_taken same tells old new name r n h e f = by (list_any (same name) old) refl e f
  where
    by : (b : Bool) → list_any (same name) old ≡ b → r ≡ not b → new ≡ cond b old (old ++ name ∷ []) → Takes old new name r
    by true g i j = subst (Takes old new name) (sym i) (λ k. one_found same tells name old g (others_than_last (map (λ n. n.now) old) name.now k.once))
    by false g i j =
        let all : map (λ n. n.now) new ≡ map (λ n. n.now) old ++ name.now ∷ [] = ap (map (λ n. n.now)) j ∙ map_push (λ n. n.now) old name in
        subst (Takes old new name) (sym i) (subst AreNames (sym all) (named_with (map (λ n. n.now) old) name.now h n (none_found same tells name old g)))

all_first : {X : Type 0} (P : X → Type 0) (xs : List X) (n : ℕ) → AllByRecursion P xs → AllByRecursion P (take n xs)
all_first P xs zero h = tt
all_first P [] (suc n) h = tt
all_first P (x ∷ xs) (suc n) h = (h.0, all_first P xs n h.1)

distinct_first : (xs : List (List ℕ)) (n : ℕ) → AreDistinct xs → AreDistinct (take n xs)
distinct_first xs zero h = tt
distinct_first [] (suc n) h = tt
distinct_first (x ∷ xs) (suc n) h = (all_first (λ later. x ≢ later) xs n h.0, distinct_first xs n h.1)

map_first : {X : Type 0} (f : X → List ℕ) (xs : List X) (n : ℕ) → map f (take n xs) ≡ take n (map f xs)
map_first f xs zero = refl
map_first f [] (suc n) = refl
map_first f (x ∷ xs) (suc n) = ap (λ ys. f x ∷ ys) (map_first f xs n)

pub map_more : {X : Type 0} (f : X → List ℕ) (xs : List X) (i : ℕ) (d : X) → i < length xs → map f (take (i + 1) xs) ≡ map f (take i xs) ++ f (get_or xs i d) ∷ []
map_more f xs i d l = ap (map f) (take_more xs i d l) ∙ map_push f (take i xs) (get_or xs i d)

-- names that stand first are names
pub names_first : {X : Type 0} (f : X → List ℕ) (xs : List X) (i : ℕ) (d : X) → i < length xs → AreNames (map f xs) → AreNames (map f (take i xs) ++ f (get_or xs i d) ∷ [])
names_first f xs i d l h =
    subst AreNames (sym (map_first f xs (i + 1)) ∙ map_more f xs i d l) (record { each = all_first IsName (map f xs) (i + 1) h.each; once = distinct_first (map f xs) (i + 1) h.once })

pub names_done : {X : Type 0} (f : X → List ℕ) (xs : List X) (n : ℕ) → length xs ≤ n → AreNames (map f (take n xs)) → AreNames (map f xs)
names_done f xs n l h = subst (λ ys. AreNames (map f ys)) (take_all n xs l) h

-- a name that does not go on a list of names that stand first
pub not_named : {X : Type 0} (f : X → List ℕ) (xs : List X) (i : ℕ) (d : X) (first : List (List ℕ)) (name : List ℕ) (b : Bool) (P : Type 0)
    → i < length xs → first ≡ map f (take i xs) → name ≡ f (get_or xs i d) → b ≡ false → MatchBool b P (AreNames (first ++ name ∷ []) → ⊥) → AreNames (map f xs) → ⊥
not_named f xs i d first name true P l e g h m = λ _. let k : true ≡ false = h in cc
not_named f xs i d first name false P l e g h m = λ k. m (rw (e, g) (names_first f xs i d l k))

pub name_is_short : (name : List ℕ) → IsName name → length name ≤ MAX_NAME
name_is_short name h = h.size.1

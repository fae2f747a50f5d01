-- Names, as things with names of their own come one after another.
use Rattle.std.proofs.Common.{◌≡◌, ◌≢◌, ℕ, suc, ◌+◌, ◌≤◌, ◌<◌, Bool, true, false, cond, not, is_some, List, [], ◌∷◌, ◌++◌, length, map, Option, Some, None, Ok, Err, ltb, refl, sym, ap, subst, ◌∙◌, arith, nat_eq}
use Rattle.std.specs.Cmp.Lexicographic.{pointwise}
use Rattle.std.specs.List.{AllByRecursion, position_or_len}
use Rattle.std.proofs.lemmas.Bool.{ltb-true}
use Rattle.std.proofs.lemmas.Option.{cond_some}
use Rattle.std.proofs.lemmas.List.{map_push}
use Rattle.plain_text.specs.Names.{IsName, is_name}
use Rattle.plain_text.proofs.ForCallers.{name_means, nowhere, same_bytes}
use Rattle.set_model.specs.Names.{AreNames}
use Rattle.set_model.proofs.ForCallers.{distinct_with}
use Rattle.script.specs.declared.refusals.ScriptCause.TheVariants as causes
use Rattle.script.specs.Words.{place_of, new_name, known_name, known}
use Rattle.nv_base.proofs.ForCallers.{all_with}

differ : (a b : List ℕ) → pointwise nat_eq a b ≡ false → a ≢ b
differ a b e = λ same. let t : pointwise nat_eq a b ≡ true = subst (λ (c : List ℕ). pointwise nat_eq a c ≡ true) same ((same_bytes a a).1 refl) in let wrong : true ≡ false = sym t ∙ e in cc

step : (v : Bool) (n m : ℕ) → suc n ≤ cond (not v) (1 + m) 0 → (v ≡ false) × (n ≤ m)
step true n m le = absurd (omega arith)
step false n m le = (refl, omega arith)

others : {X : Type 0} (f : X → List ℕ) (word : List ℕ) (xs : List X) → length xs ≤ position_or_len (λ x. pointwise nat_eq (f x) word) xs → AllByRecursion (λ x. x ≢ word) (map f xs)
others f word [] le = tt
others f word (x ∷ xs) le =
    let s = step (pointwise nat_eq (f x) word) (length xs) (position_or_len (λ x. pointwise nat_eq (f x) word) xs) le in
    (differ (f x) word s.0, others f word xs s.1)

record IsNew {X : Type 0} (f : X → List ℕ) (xs : List X) (name : List ℕ) : Type 0 where
  proper : IsName name
  other : AllByRecursion (λ x. x ≢ name) (map f xs)

is_new : {X : Type 0} (f : X → List ℕ) (xs : List X) (word name : List ℕ) → new_name f xs word ≡ Ok name → IsNew f xs name
is_new f xs word name h = go (is_name word) refl h
  where
    placed : (o : Option ℕ) → place_of f word xs ≡ o → is_name word ≡ true → cond (is_some o) (Err causes.Twice) (Ok word) ≡ Ok name → IsNew f xs name
    placed (Some place) e n h = absurd cc
    placed None e n h =
        let same : word ≡ name = cc in
        subst (IsNew f xs) same (record { proper = name_means word n; other = others f word xs (nowhere (λ x. pointwise nat_eq (f x) word) xs e) })

    go : (b : Bool) → is_name word ≡ b → cond (not b) (Err causes.Name) (cond (is_some (place_of f word xs)) (Err causes.Twice) (Ok word)) ≡ Ok name → IsNew f xs name
    go true e h = placed (place_of f word xs) refl e h
    go false e h = absurd cc

-- one more thing with a new name
pub named_with : {X : Type 0} (f : X → List ℕ) (xs : List X) (x : X) (word name : List ℕ) → AreNames (map f xs) → new_name f xs word ≡ Ok name → f x ≡ name → AreNames (map f (xs ++ x ∷ []))
named_with f xs x word name names h e =
    let new = is_new f xs word name h in
    let all : AreNames (map f xs ++ name ∷ []) = record { each = all_with IsName (map f xs) name names.each new.proper; once = distinct_with (map f xs) name names.once new.other } in
    subst AreNames (ap (λ (n : List ℕ). map f xs ++ n ∷ []) (sym e) ∙ sym (map_push f xs x)) all

-- a name that is known is one of those
pub known_within : {X : Type 0} (f : X → List ℕ) (xs : List X) (word : List ℕ) (place : ℕ) → known_name f xs word ≡ Ok place → place < length xs
known_within f xs word place h = go (is_name word) h
  where
    found : (o : Option ℕ) → place_of f word xs ≡ o → known o ≡ Ok place → place < length xs
    found None e h = absurd cc
    found (Some k) e h =
        let same : k ≡ place = cc in
        let t = cond_some (ltb (position_or_len (λ x. pointwise nat_eq (f x) word) xs) (length xs)) (position_or_len (λ x. pointwise nat_eq (f x) word) xs) k e in
        omega (arith, ltb-true _ _ t.0, t.1, same)

    go : (b : Bool) → cond (not b) (Err causes.Name) (known (place_of f word xs)) ≡ Ok place → place < length xs
    go true h = found (place_of f word xs) refl h
    go false h = absurd cc

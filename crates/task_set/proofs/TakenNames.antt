-- Names that are taken, as the set of slices has them.
use Rattle.std.proofs.Common.{◌≡◌, ℕ, Bool, true, false, not, cond, nat_eq, ◌||◌, ◌&&◌, List, [], ◌∷◌, ◌++◌, map, refl, sym, ◌∙◌, ap, Bor}
use Rattle.std.specs.Bool.{OnTrue}
use Rattle.std.specs.Cmp.Lexicographic.{pointwise}
use Rattle.std.specs.List.{list_any}
use Rattle.std.proofs.lemmas.List.{map_push}
use Rattle.plain_text.specs.Names.{is_name}
use Rattle.set_model.specs.Names.{is_new}

any_now : (name : List ℕ) (keys : List (Bor (List ℕ))) → list_any (λ k. pointwise nat_eq name k.now) keys ≡ list_any (pointwise nat_eq name) (map (λ k. k.now) keys)
any_now name [] = refl
any_now name (k ∷ keys) = ap (λ b. pointwise nat_eq name k.now || b) (any_now name keys)

told_new : (r : Bool) (name : List ℕ) (keys : List (Bor (List ℕ))) → r ≡ not (list_any (λ k. pointwise nat_eq name k.now) keys) → r ≡ is_new (map (λ k. k.now) keys) name
told_new r name keys e = e ∙ ap not (any_now name keys)

-- a name that is well formed, and new where it was inserted
pub told_both : (a r : Bool) (name : List ℕ) (keys : List (Bor (List ℕ))) → a ≡ is_name name → a ≡ true → r ≡ not (list_any (λ k. pointwise nat_eq name k.now) keys)
    → r ≡ (is_name name && is_new (map (λ k. k.now) keys) name)
told_both a r name keys e f g = let h : is_name name ≡ true = sym e ∙ f in rw h (told_new r name keys g)

pub is_taken : (b r : Bool) (old new : List (Bor (List ℕ))) (name : Bor (List ℕ)) → r ≡ not b → new ≡ cond b old (old ++ name ∷ []) → OnTrue r (map (λ k. k.now) new ≡ map (λ k. k.now) old ++ name.now ∷ [])
is_taken true r old new name e f = rw e tt
is_taken false r old new name e f = rw e (ap (map (λ k. k.now)) f ∙ map_push (λ k. k.now) old name)

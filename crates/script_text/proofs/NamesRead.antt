-- Names of a set, read one after the other: each is new where it is given, and found where it is used.
use Rattle.std.proofs.Common.{◌≡◌, ◌≢◌, ℕ, zero, suc, ◌<◌, true, false, List, [], ◌∷◌, ◌++◌, length, map, get_or, Ok, refl, sym, ltb, nat_eq, inl, inr, arith}
use Rattle.std.specs.List.{AllByRecursion, position_or_len}
use Rattle.std.specs.Cmp.Lexicographic.{pointwise, same_text, other_text}
use Rattle.std.proofs.lemmas.Bool.{cases_Bool, lt-ltb, le-ltb}
use Rattle.set_model.specs.Names.{IsName, AreDistinct}
use Rattle.script.specs.Words.{new_name, known_name}
use Rattle.plain_text.proofs.ForCallers.{name_told}

differ : (a b : List ℕ) → a ≢ b → pointwise nat_eq a b ≡ false
differ a b ne = elim (cases_Bool (pointwise nat_eq a b)) [
  | inl t ↦ absurd (ne (same_text a b (sym t)))
  | inr f ↦ f
]

same : (a : List ℕ) → pointwise nat_eq a a ≡ true
same a = elim (cases_Bool (pointwise nat_eq a a)) [
  | inl t ↦ t
  | inr f ↦ absurd (other_text a a (sym f) refl)
]

at_seam : (P : List ℕ → Type 0) (xs : List (List ℕ)) (y : List ℕ) (ys : List (List ℕ)) → AllByRecursion P (xs ++ y ∷ ys) → P y
at_seam P [] y ys all = all.0
at_seam P (x ∷ xs) y ys all = at_seam P xs y ys all.1

at_place : {X : Type 0} (f : X → List ℕ) (P : List ℕ → Type 0) (xs : List X) (i : ℕ) (none : X) → AllByRecursion P (map f xs) → i < length xs → P (f (get_or xs i none))
at_place f P [] i none all lt = absurd (omega arith)
at_place f P (x ∷ xs) zero none all lt = all.0
at_place f P (x ∷ xs) (suc i) none all lt = at_place f P xs i none all.1 (omega arith)

module _ {X : Type 0} (name_of : X → List ℕ) where
  -- no thing before has this name
  none_before : (things : List X) (name : List ℕ) (others : List (List ℕ)) → AreDistinct (map name_of things ++ name ∷ others) → position_or_len (λ thing. pointwise nat_eq (name_of thing) name) things ≡ length things
  none_before [] name others once = refl
  none_before (first ∷ things) name others once =
      let one = differ (name_of first) name (at_seam (λ later. name_of first ≢ later) (map name_of things) name others once.0) in
      rw (one, none_before things name others once.1) (omega arith)

  pub is_new : (things : List X) (name : List ℕ) (others : List (List ℕ)) → IsName name → AreDistinct (map name_of things ++ name ∷ others) → new_name name_of things name ≡ Ok name
  is_new things name others h once =
      let none : ltb (length things) (length things) ≡ false = le-ltb _ _ (omega arith) in
      rw (name_told name h, none_before things name others once, none) refl

  -- a thing is found at its own place
  found_at : (things : List X) (i : ℕ) (none : X) → AreDistinct (map name_of things) → i < length things → position_or_len (λ thing. pointwise nat_eq (name_of thing) (name_of (get_or things i none))) things ≡ i
  found_at [] i none once lt = absurd (omega arith)
  found_at (thing ∷ things) zero none once lt = rw (same (name_of thing)) refl
  found_at (thing ∷ things) (suc i) none once lt =
      let one = differ (name_of thing) (name_of (get_or things i none)) (at_place name_of (λ later. name_of thing ≢ later) things i none once.0 (omega arith)) in
      rw (one, found_at things i none once.1 (omega arith)) (omega arith)

  pub is_known : (things : List X) (i : ℕ) (none : X) → IsName (name_of (get_or things i none)) → AreDistinct (map name_of things) → i < length things → known_name name_of things (name_of (get_or things i none)) ≡ Ok i
  is_known things i none h once lt =
      let within : ltb i (length things) ≡ true = lt-ltb _ _ lt in
      rw (name_told (name_of (get_or things i none)) h, found_at things i none once lt, within) refl

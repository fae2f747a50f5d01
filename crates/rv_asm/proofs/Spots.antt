-- Labels in the map that holds them.
use Rattle.std.proofs.Common.{◌≡◌, ℕ, Bool, true, false, cond, List, [], ◌∷◌, ◌&&◌, eqb, Option, Some, None, Bor, refl, ap, ◌∙◌, nat_eq, is_some, inl, inr}
use Rattle.std.specs.Cmp.Lexicographic.{pointwise}
use Rattle.std.specs.Map.{lookup}
use Rattle.std.specs.Option.{option_or}
use Rattle.std.proofs.lemmas.Bool.{eqb-true, cases_Bool, and_parts}
use Rattle.indexmap.specs.IndexMap.{insert_entry}
use Rattle.rv_asm.specs.declared.labels.Spot.{Spot}
use Rattle.rv_asm.specs.Labels.{Found, noted}

pointwise_true : (a b : List ℕ) → pointwise nat_eq a b ≡ true → a ≡ b
pointwise_true [] [] e = refl
pointwise_true [] (y ∷ b) e = absurd cc
pointwise_true (x ∷ a) [] e = absurd cc
pointwise_true (x ∷ a) (y ∷ b) e =
    let p = and_parts (eqb x y) (pointwise nat_eq a b) e in
    let head = eqb-true x y p.0 in
    let tail = pointwise_true a b p.1 in
    cc

known : (o next : Option Spot) → is_some o ≡ true → o ≡ option_or o next
known None next h = absurd cc
known (Some s) next h = refl

unknown : (o : Option Spot) → o ≡ option_or o None
unknown None = refl
unknown (Some s) = refl

-- the label is there, so nothing is added
pub kept : (found : Found) (label : List ℕ) (s : Spot) → is_some (found label) ≡ true → found ≡ noted found (Some label) s
kept found label s there =
    let each : (name : List ℕ) → found name ≡ noted found (Some label) s name = λ name. elim (cases_Bool (pointwise nat_eq name label)) [
      | inl e ↦ known (found name) (cond (pointwise nat_eq name label) (Some s) None) (ap (λ n. is_some (found n)) (pointwise_true name label e) ∙ there)
      | inr e ↦ rw e (unknown (found name))
    ] in
    λ i name. each name i

absent_parts : (b : Bool) (v : Spot) (rest : Option Spot) → cond b (Some v) rest ≡ None → (b ≡ false) × (rest ≡ None)
absent_parts true v rest h = absurd cc
absent_parts false v rest h = (refl, h)

through : (b : Bool) (v : Spot) (rest next : Option Spot) → cond b (Some v) (option_or rest next) ≡ option_or (cond b (Some v) rest) next
through true v rest next = refl
through false v rest next = refl

-- one more entry, whose key is none of those there
pub added : (entries : List (Bor (List ℕ) × Spot)) (key : Bor (List ℕ)) (s : Spot) → lookup (λ (k : Bor (List ℕ)). pointwise nat_eq key.now k.now) entries ≡ None
    → (name : List ℕ) → lookup (λ (k : Bor (List ℕ)). pointwise nat_eq name k.now) (insert_entry (λ (a b : Bor (List ℕ)). pointwise nat_eq a.now b.now) entries key s)
    ≡ option_or (lookup (λ (k : Bor (List ℕ)). pointwise nat_eq name k.now) entries) (cond (pointwise nat_eq name key.now) (Some s) None)
added [] key s absent name = refl
added (e ∷ es) key s absent name =
    let a = absent_parts (pointwise nat_eq key.now e.0.now) e.1 (lookup (λ (k : Bor (List ℕ)). pointwise nat_eq key.now k.now) es) absent in
    rw (a.0, added es key s a.1 name) (through (pointwise nat_eq name e.0.now) e.1 (lookup (λ (k : Bor (List ℕ)). pointwise nat_eq name k.now) es) (cond (pointwise nat_eq name key.now) (Some s) None))

pub absent_from : (o : Option Spot) → is_some o ≡ false → o ≡ None
absent_from None h = refl
absent_from (Some s) h = absurd cc

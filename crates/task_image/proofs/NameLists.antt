-- Names, each of which is new after those before it, are distinct names, and the other way round.
use Rattle.std.proofs.Common.{◌≡◌, ◌≢◌, ℕ, Bool, true, false, not, nat_eq, ◌||◌, List, [], ◌∷◌, ◌++◌, refl, sym, ◌∙◌, ap}
use Rattle.std.proofs.lemmas.Bool.{not-true, or_parts}
use Rattle.std.specs.Cmp.Lexicographic.{pointwise}
use Rattle.std.specs.List.{AllByRecursion, list_any}
use Rattle.set_model.specs.Names.{AreDistinct, is_new}
use Rattle.nv_base.proofs.ForCallers.{all_with}
use Rattle.plain_text.proofs.ForCallers.{same_bytes}

differs : (a b : List ℕ) → pointwise nat_eq a b ≡ false → b ≢ a
differs a b e g = let f : true ≡ false = sym ((same_bytes a b).1 (sym g)) ∙ e in absurd cc

told_apart : (c : Bool) (a b : List ℕ) → pointwise nat_eq a b ≡ c → b ≢ a → c ≡ false
told_apart true a b e h = absurd (h (sym ((same_bytes a b).0 e)))
told_apart false a b e h = refl

none_is : (taken : List (List ℕ)) (name : List ℕ) → list_any (pointwise nat_eq name) taken ≡ false → AllByRecursion (λ x. x ≢ name) taken
none_is [] name e = tt
none_is (x ∷ taken) name e = let t = or_parts _ _ e in (differs name x t.0, none_is taken name t.1)

none_told : (taken : List (List ℕ)) (name : List ℕ) → AllByRecursion (λ x. x ≢ name) taken → list_any (pointwise nat_eq name) taken ≡ false
none_told [] name h = refl
none_told (x ∷ taken) name h = ap (λ (b : Bool). b || list_any (pointwise nat_eq name) taken) (told_apart _ name x refl h.0) ∙ none_told taken name h.1

-- each is new after those before it
abbrev pub AreNew : List (List ℕ) → List (List ℕ) → Type 0
AreNew taken [] = Unit {0}
AreNew taken (name ∷ names) = (is_new taken name ≡ true) × AreNew (taken ++ name ∷ []) names

all_units : (xs : List (List ℕ)) → AllByRecursion (λ x. Unit {0}) xs
all_units [] = tt
all_units (x ∷ xs) = (tt, all_units xs)

all_pairs : (P Q : List ℕ → Type 0) (xs : List (List ℕ)) → AllByRecursion P xs → AllByRecursion Q xs → AllByRecursion (λ x. P x × Q x) xs
all_pairs P Q [] p q = tt
all_pairs P Q (x ∷ xs) p q = ((p.0, q.0), all_pairs P Q xs p.1 q.1)

all_first : (P Q : List ℕ → Type 0) (xs : List (List ℕ)) → AllByRecursion (λ x. P x × Q x) xs → AllByRecursion P xs
all_first P Q [] h = tt
all_first P Q (x ∷ xs) h = (h.0.0, all_first P Q xs h.1)

all_second : (P Q : List ℕ → Type 0) (xs : List (List ℕ)) → AllByRecursion (λ x. P x × Q x) xs → AllByRecursion Q xs
all_second P Q [] h = tt
all_second P Q (x ∷ xs) h = (h.0.1, all_second P Q xs h.1)

all_front : (P : List ℕ → Type 0) (xs : List (List ℕ)) (y : List ℕ) → AllByRecursion P (xs ++ y ∷ []) → AllByRecursion P xs × P y
all_front P [] y h = (tt, h.0)
all_front P (x ∷ xs) y h = let t = all_front P xs y h.1 in ((h.0, t.0), t.1)

abbrev Apart : List (List ℕ) → List ℕ → Type 0
Apart names x = AllByRecursion (λ later. x ≢ later) names

later_differ : (taken names : List (List ℕ)) → AreNew taken names → AllByRecursion (Apart names) taken
later_differ taken [] f = all_units taken
later_differ taken (name ∷ names) f =
    all_pairs (λ x. x ≢ name) (Apart names) taken (none_is taken name (not-true _ f.0)) (all_front (Apart names) taken name (later_differ (taken ++ name ∷ []) names f.1)).0

pub new_are_distinct : (taken names : List (List ℕ)) → AreNew taken names → AreDistinct names
new_are_distinct taken [] f = tt
new_are_distinct taken (name ∷ names) f =
    ((all_front (Apart names) taken name (later_differ (taken ++ name ∷ []) names f.1)).1, new_are_distinct (taken ++ name ∷ []) names f.1)

distinct_after : (taken names : List (List ℕ)) → AllByRecursion (Apart names) taken → AreDistinct names → AreNew taken names
distinct_after taken [] a d = tt
distinct_after taken (name ∷ names) a d = (
  ap not (none_told taken name (all_first (λ x. x ≢ name) (Apart names) taken a)),
  distinct_after (taken ++ name ∷ []) names (all_with (Apart names) taken name (all_second (λ x. x ≢ name) (Apart names) taken a) d.0) d.1,
)

pub distinct_are_new : (names : List (List ℕ)) → AreDistinct names → AreNew [] names
distinct_are_new names d = distinct_after [] names tt d

-- The least written object without a free slot, and that there is none.
use Rattle.std.proofs.Common.{◌≡◌, ℕ, ◌<◌, Bool, true, false, cond, eqb, ◌||◌, List, [], ◌∷◌, length, Some, None, refl, ap, ap₂, ◌∙◌, subst}
use Rattle.std.specs.Prelude.{is_some}
use Rattle.std.specs.List.{AllByRecursion}
use Rattle.std.proofs.lemmas.Bool.{eq-eqb, eqb-true}
use Rattle.object_sets.specs.ObjectSets.{AreBelow, IsIncreasing, is_among}
use Rattle.kernel_model.specs.Sizes.{Sizes}
use Rattle.kernel_model.specs.Effects.{Write}
use Rattle.slot_model.specs.Tabled.{Place, View, free_place, full_object}
use Rattle.table_machine.specs.Tables.{Chain}
use Rattle.table_machine.specs.Places.{places_at}
use Rattle.ver_table.specs.Tabled.{all_tabled}
use Rattle.ver_table.proofs.ChainsTabled.{chain_is}
use Rattle.validate.specs.Plans.{HaveSlots, IsFull, free_in}
use Rattle.validate.specs.Answers.{AreSizes, Seen}
use Rattle.validate.proofs.Raises.{among_below, objects_in}

-- what holds of each of these holds of one that is among them
pub all_among : (P : ℕ → Type 0) (xs : List ℕ) (o : ℕ) → AllByRecursion P xs → is_among o xs ≡ true → P o
all_among P [] o h e = absurd (cc e)
all_among P (x ∷ xs) o h e = at (all_among P xs o h.1) (eqb x o) refl e
  where
    at : (is_among o xs ≡ true → P o) → (b : Bool) → eqb x o ≡ b → (b || is_among o xs) ≡ true → P o
    at rest true f e = subst P (eqb-true x o f) h.0
    at rest false f e = rest e

-- and the other way
pub each_among : (P : ℕ → Type 0) (xs : List ℕ) → ((o : ℕ) → is_among o xs ≡ true → P o) → AllByRecursion P xs
each_among P [] h = tt
each_among P (x ∷ xs) h = (h x (ap (λ (b : Bool). b || is_among x xs) (eq-eqb x x refl)), each_among P xs (λ o e. h o (behind (eqb x o) (is_among o xs) e)))
  where
    behind : (b c : Bool) → c ≡ true → (b || c) ≡ true
    behind true c e = refl
    behind false c e = e

-- the first of two is among them
first_among : (x : ℕ) (xs : List ℕ) → is_among x (x ∷ xs) ≡ true
first_among x xs = ap (λ (b : Bool). b || is_among x xs) (eq-eqb x x refl)

next_among : (o x : ℕ) (xs : List ℕ) → is_among o xs ≡ true → is_among o (x ∷ xs) ≡ true
next_among o x xs e = at (eqb x o)
  where
    at : (b : Bool) → (b || is_among o xs) ≡ true
    at true = refl
    at false = e

-- whether an object has a free slot
has_slot : Sizes → (ℕ → List Place) → List View → ℕ → Bool
has_slot sizes places views o = is_some (free_place (sizes.slots o) o views (places o))

pub full_none : (sizes : Sizes) (places : ℕ → List Place) (views : List View) (ws : List Write) → ((o : ℕ) → is_among o (objects_in ws) ≡ true → is_some (free_place (sizes.slots o) o views (places o)) ≡ true) → full_object sizes places views ws ≡ None
full_none sizes places views [] h = refl
full_none sizes places views (w ∷ ws) h =
    ap (λ (b : Bool). cond b (full_object sizes places views ws) (Some w.object)) (h w.object (first_among w.object (objects_in ws)))
    ∙ full_none sizes places views ws (λ o e. h o (next_among o w.object (objects_in ws) e))

pub full_some : (sizes : Sizes) (places : ℕ → List Place) (views : List View) (ws : List Write) (o : ℕ) → IsIncreasing (objects_in ws) → is_among o (objects_in ws) ≡ true → free_place (sizes.slots o) o views (places o) ≡ None
    → ((j : ℕ) → j < o → is_among j (objects_in ws) ≡ true → is_some (free_place (sizes.slots j) j views (places j)) ≡ true) → full_object sizes places views ws ≡ Some o
full_some sizes places views [] o inc e none h = absurd (cc e)
full_some sizes places views (w ∷ ws) o inc e none h = at (λ f. full_some sizes places views ws o inc.1 f none (λ j l g. h j l (next_among j w.object (objects_in ws) g))) (eqb w.object o) refl e
  where
    at : (is_among o (objects_in ws) ≡ true → full_object sizes places views ws ≡ Some o) → (b : Bool) → eqb w.object o ≡ b → (b || is_among o (objects_in ws)) ≡ true
        → cond (is_some (free_place (sizes.slots w.object) w.object views (places w.object))) (full_object sizes places views ws) (Some w.object) ≡ Some o
    at rest true f g =
        let same : w.object ≡ o = eqb-true w.object o f in
        let full : is_some (free_place (sizes.slots w.object) w.object views (places w.object)) ≡ false = ap (λ (j : ℕ). is_some (free_place (sizes.slots j) j views (places j))) same ∙ ap is_some none in
        ap (λ (b : Bool). cond b (full_object sizes places views ws) (Some w.object)) full ∙ ap (λ (j : ℕ). Some j) same
    at rest false f g =
        let low : w.object < o = all_among (λ j. w.object < j) (objects_in ws) o inc.0 g in
        let free = h w.object low (first_among w.object (objects_in ws)) in
        ap (λ (b : Bool). cond b (full_object sizes places views ws) (Some w.object)) free ∙ rest g

-- the free slot of the table machine is that of the table
pub free_place_is : (s : Seen) (sizes : Sizes) → AreSizes s sizes → (o : ℕ) → o < length s.chains → free_place (sizes.slots o) o s.others (places_at (all_tabled s.chains) o) ≡ free_in s.chains s.others o
free_place_is s sizes h o l = ap₂ (λ (n : ℕ) (c : Chain). free_place n o s.others c.places) (h.slots o l) (chain_is s.chains o)

-- where each has a slot none is full
pub none_full : (s : Seen) (sizes : Sizes) (ws : List Write) (slots : List ℕ) → AreSizes s sizes → AreBelow (length s.chains) (objects_in ws) → HaveSlots s.chains s.others (objects_in ws) slots → full_object sizes (places_at (all_tabled s.chains)) s.others ws ≡ None
none_full s sizes ws slots h below have = full_none sizes (places_at (all_tabled s.chains)) s.others ws (λ o e. ap is_some (free_place_is s sizes h o (among_below (length s.chains) (objects_in ws) below o e) ∙ (have o e).free))

-- else the least one is
pub one_full : (s : Seen) (sizes : Sizes) (ws : List Write) (o : ℕ) → AreSizes s sizes → AreBelow (length s.chains) (objects_in ws) → IsIncreasing (objects_in ws) → IsFull s.chains s.others (objects_in ws) o → full_object sizes (places_at (all_tabled s.chains)) s.others ws ≡ Some o
one_full s sizes ws o h below inc full =
    full_some sizes (places_at (all_tabled s.chains)) s.others ws o inc full.among
    (free_place_is s sizes h o (among_below (length s.chains) (objects_in ws) below o full.among) ∙ full.full)
    (λ j l e. ap is_some (free_place_is s sizes h j (among_below (length s.chains) (objects_in ws) below j e)) ∙ full.earlier j l e)

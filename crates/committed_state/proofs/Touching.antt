-- Objects that a finish touches, one after another.
use Rattle.std.proofs.Common.{◌≡◌, ℕ, ◌<◌, ◌≤◌, Bool, true, false, eqb, ne_eqb, ◌||◌, List, [], ◌∷◌, cond, length, set, refl, sym, ap, subst, ◌∙◌, arith, get_or-set_same, get_or-set_other}
use Rattle.std.specs.Prelude.{slice_index}
use Rattle.std.proofs.lemmas.Bool.{eqb-true, eqb-false, or_parts}
use Rattle.std.proofs.lemmas.List.{length-set}
use Rattle.object_sets.specs.ObjectSets.{IsIncreasing, is_among, with_object}
use Rattle.object_sets.proofs.ForCallers.{below-among, is_among-with_object}
use Rattle.ver_table.specs.Chains.{Chain, chain_at, installed, noted}
use Rattle.ver_table.proofs.Walks.{first_among, rest_among}
use Rattle.committed_state.specs.Joining.{touched_by}
use Rattle.committed_state.specs.declared.joining.Joining.{Joining}

-- no object
abbrev pub no_chain : Chain
no_chain = record { slots = 0; bound = 0; stored = [] }

-- those of the first objects that are not left are what the finish makes of them; the others are as they were
pub record AreTouchedButFor (left : List ℕ) (j : Joining) (slots : List ℕ) (count : ℕ) (old new : List Chain) : Type 0 where
  pub number : length new ≡ length old
  pub waiting : (o : ℕ) → is_among o left ≡ true → chain_at new o ≡ chain_at old o
  pub done : (o : ℕ) → o < count → is_among o left ≡ false → chain_at new o ≡ touched_by j o (slice_index slots o) (chain_at old o)
  pub rest : (o : ℕ) → count ≤ o → chain_at new o ≡ chain_at old o

-- what is neither read nor written stays
untouched : (j : Joining) (o slot : ℕ) (c : Chain) → (is_among o j.written || is_among o j.reads) ≡ false → c ≡ touched_by j o slot c
untouched j o slot c e = let h = or_parts (is_among o j.written) (is_among o j.reads) e in rw (h.0, h.1) refl

pub none_touched : (j : Joining) (left slots : List ℕ) (count : ℕ) (old : List Chain) → ((o : ℕ) → is_among o left ≡ (is_among o j.written || is_among o j.reads)) → AreTouchedButFor left j slots count old old
none_touched j left slots count old all = record {
  number = refl;
  waiting = λ o e. refl;
  done = λ o l e. untouched j o (slice_index slots o) (chain_at old o) (sym (all o) ∙ e);
  rest = λ o l. refl;
}

-- an object that is not the first, and not among those behind it
not_first : (p o : ℕ) (os all : List ℕ) → all ≡ o ∷ os → (p ≡ o → ⊥) → is_among p os ≡ false → is_among p all ≡ false
not_first p o os all e other f = ap (is_among p) e ∙ rw (ne_eqb o p (λ g. other (sym g))) f

-- the least one of those that are left is touched
pub one_touched : (j : Joining) (slots os all : List ℕ) (count : ℕ) (old new : List Chain) (o : ℕ) → all ≡ o ∷ os → IsIncreasing all → o < count → o < length new → AreTouchedButFor all j slots count old new
    → AreTouchedButFor os j slots count old (set new o (touched_by j o (slice_index slots o) (chain_at new o)))
one_touched j slots os all count old new o e rising few l h = record {
  number = length-set new o c ∙ h.number;
  waiting = λ p f.
      let other : p ≡ o → ⊥ = λ g. let twice : true ≡ false = sym f ∙ ap (λ (k : ℕ). is_among k os) g ∙ once in cc twice in
      get_or-set_other new o p c no_chain other ∙ h.waiting p (rest_among p o os all e f);
  done = λ p m f. at p m f (eqb p o) refl;
  rest = λ p m. let other : p ≡ o → ⊥ = λ g. omega (arith, few, m, g) in get_or-set_other new o p c no_chain other ∙ h.rest p m;
}
  where
    c : Chain
    c = touched_by j o (slice_index slots o) (chain_at new o)

    once : is_among o os ≡ false
    once = below-among o os (subst IsIncreasing e rising).0

    at : (p : ℕ) → p < count → is_among p os ≡ false → (b : Bool) → eqb p o ≡ b → chain_at (set new o c) p ≡ touched_by j p (slice_index slots p) (chain_at old p)
    at p m f true g =
        let same : o ≡ p = sym (eqb-true p o g) in
        subst (λ (k : ℕ). chain_at (set new o c) k ≡ touched_by j k (slice_index slots k) (chain_at old k)) same
        (get_or-set_same new o c no_chain l ∙ ap (touched_by j o (slice_index slots o)) (h.waiting o (first_among o os all e)))
    at p m f false g =
        let other : p ≡ o → ⊥ = eqb-false p o g in
        get_or-set_other new o p c no_chain other ∙ h.done p m (not_first p o os all e other f)

-- one that there is not is passed over
pub one_passed : (j : Joining) (slots os all : List ℕ) (count : ℕ) (old new : List Chain) (o : ℕ) → all ≡ o ∷ os → count ≤ o → AreTouchedButFor all j slots count old new → AreTouchedButFor os j slots count old new
one_passed j slots os all count old new o e many h = record {
  number = h.number;
  waiting = λ p f. h.waiting p (rest_among p o os all e f);
  done = λ p m f. h.done p m (not_first p o os all e (λ g. omega (arith, many, m, g)) f);
  rest = h.rest;
}

-- one of those that are left is added to all that were
pub one_added : (p o : ℕ) (done more left all : List ℕ) → all ≡ o ∷ left → more ≡ with_object o done → (is_among p done || is_among p all) ≡ (is_among p more || is_among p left)
one_added p o done more left all e f =
    ap (λ xs. is_among p done || is_among p xs) e ∙ moved (is_among p done) (eqb o p) (is_among p left)
    ∙ ap (λ b. b || is_among p left) (sym (ap (is_among p) f ∙ is_among-with_object o p done))
  where
    moved : (a b c : Bool) → (a || (b || c)) ≡ ((b || a) || c)
    moved true true c = refl
    moved true false c = refl
    moved false true c = refl
    moved false false c = refl

-- an object keeps as many slots
pub slots_stay : (j : Joining) (o slot : ℕ) (c : Chain) → (touched_by j o slot c).slots ≡ c.slots
slots_stay j o slot c = at (is_among o j.written) (is_among o j.reads)
  where
    at : (w r : Bool) → (cond w (installed slot j.point.0 c) (cond r (noted j.point.0 c) c)).slots ≡ c.slots
    at true r = refl
    at false true = refl
    at false false = refl

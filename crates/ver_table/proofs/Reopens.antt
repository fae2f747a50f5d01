-- Objects that are opened again, one after another.
use Rattle.std.proofs.Common.{◌≡◌, ℕ, zero, suc, ◌+◌, ◌<◌, ◌≤◌, List, [], ◌∷◌, length, get_or, set, map, refl, sym, ap, ◌∙◌, arith, below_more, get_or-set_same, get_or-set_other}
use Rattle.std.specs.Prelude.{slice_index}
use Rattle.std.proofs.lemmas.List.{length-map, length-set}
use Rattle.ver_table.specs.Chains.{AreNamed, AreOpened, Chain, chain_at, one_version}

-- as many slots as are told
pub slots_told : (chains : List Chain) (o : ℕ) → slice_index (map (λ (c : Chain). c.slots) chains) o ≡ (chain_at chains o).slots
slots_told [] o = refl
slots_told (c ∷ chains) zero = refl
slots_told (c ∷ chains) (suc o) = slots_told chains o

-- the first so many are opened, the others are as they were
pub record AreReopening (named : List ℕ) (p : ℕ) (old new : List Chain) (o : ℕ) : Type 0 where
  pub number : length new ≡ length old
  pub done : (j : ℕ) → j < o → chain_at new j ≡ one_version (slice_index (map (λ (c : Chain). c.slots) old) j) (slice_index named j) p
  pub rest : (j : ℕ) → o ≤ j → chain_at new j ≡ chain_at old j

pub none_reopened : (named : List ℕ) (p : ℕ) (old : List Chain) → AreReopening named p old old 0
none_reopened named p old = record { number = refl; done = λ j l. absurd (omega (arith, l)); rest = λ j l. refl }

-- an object that is to be opened has the slot that is named
pub named_below : (named : List ℕ) (p : ℕ) (old new : List Chain) (o : ℕ) → AreReopening named p old new o → AreNamed (map (λ (c : Chain). c.slots) old) named → o < length new → slice_index named o < (chain_at new o).slots
named_below named p old new o h n l =
    let long = length-map old (λ (c : Chain). c.slots) in
    let low = n.each o (omega (arith, l, h.number, long)) in
    let same : slice_index (map (λ (c : Chain). c.slots) old) o ≡ (chain_at new o).slots = slots_told old o ∙ sym (ap (λ (c : Chain). c.slots) (h.rest o (omega arith))) in
    omega (arith, low, same)

pub one_reopened : (named : List ℕ) (p : ℕ) (old new : List Chain) (o : ℕ) (c : Chain) → AreReopening named p old new o → o < length new → c ≡ one_version (chain_at new o).slots (slice_index named o) p → AreReopening named p old (set new o c) (o + 1)
one_reopened named p old new o c h l e = record {
  number = length-set new o c ∙ h.number;
  done =
      below_more (λ j. chain_at (set new o c) j ≡ one_version (slice_index (map (λ (c : Chain). c.slots) old) j) (slice_index named j) p) o
      (λ j b. let ne : j ≡ o → ⊥ = λ f. omega (arith, b, f) in get_or-set_other new o j c (record { slots = 0; bound = 0; stored = [] }) ne ∙ h.done j b)
      (get_or-set_same new o c (record { slots = 0; bound = 0; stored = [] }) l ∙ e
      ∙ ap (λ (n : ℕ). one_version n (slice_index named o) p) (ap (λ (d : Chain). d.slots) (h.rest o (omega arith)) ∙ sym (slots_told old o)));
  rest = λ j b. let ne : j ≡ o → ⊥ = λ f. omega (arith, b, f) in get_or-set_other new o j c (record { slots = 0; bound = 0; stored = [] }) ne ∙ h.rest j (omega (arith, b));
}

pub all_reopened : (named : List ℕ) (p : ℕ) (old new : List Chain) (o : ℕ) → AreReopening named p old new o → length old ≤ o → AreOpened (map (λ (c : Chain). c.slots) old) named p new
all_reopened named p old new o h l =
    let long = length-map old (λ (c : Chain). c.slots) in
    record {
      number = omega (arith, h.number, long);
      each = λ j b. h.done j (omega (arith, b, l, long));
    }

-- inside a list it is of no account what stands for the others
pub inside_is : {A : Type 0} → (xs : List A) (o : ℕ) (d e : A) → o < length xs → get_or xs o d ≡ get_or xs o e
inside_is [] o d e l = absurd (omega (arith, l))
inside_is (x ∷ xs) zero d e l = refl
inside_is (x ∷ xs) (suc o) d e l = inside_is xs o d e (omega (arith, l))

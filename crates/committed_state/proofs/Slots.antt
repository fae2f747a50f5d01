-- Lists that are the same at each number, and how many slots the objects of a table have.
use Rattle.std.proofs.Common.{◌≡◌, ℕ, suc, ◌<◌, ◌≤◌, List, [], ◌∷◌, length, map, refl, sym, ap, ap₂, ◌∙◌, arith}
use Rattle.std.specs.Prelude.{slice_index}
use Rattle.std.proofs.lemmas.List.{length-map}
use Rattle.ver_table.specs.Chains.{Chain, chain_at}
use Rattle.ver_table.proofs.Reopens.{slots_told}
use Rattle.committed_state.specs.Joining.{AreTouchedBy}
use Rattle.committed_state.specs.declared.joining.Joining.{Joining}
use Rattle.committed_state.proofs.Touching.{slots_stay}

pub same-numbers : (xs ys : List ℕ) → length xs ≡ length ys → ((k : ℕ) → k < length xs → slice_index xs k ≡ slice_index ys k) → xs ≡ ys
same-numbers [] [] l e = refl
same-numbers [] (y ∷ ys) l e = absurd (omega (arith, l))
same-numbers (x ∷ xs) [] l e = absurd (omega (arith, l))
same-numbers (x ∷ xs) (y ∷ ys) l e = ap₂ (λ (z : ℕ) (zs : List ℕ). z ∷ zs) (e 0 (omega arith)) (same-numbers xs ys (omega (arith, l)) (λ k b. e (suc k) (omega (arith, b))))

abbrev pub all_slots : List Chain → List ℕ
all_slots chains = map (λ (c : Chain). c.slots) chains

-- chains with as many slots, one by one
pub slots_by_each : (old new : List Chain) → length new ≡ length old → ((o : ℕ) → o < length old → (chain_at new o).slots ≡ (chain_at old o).slots) → all_slots new ≡ all_slots old
slots_by_each old new l e =
    let a = length-map new (λ (c : Chain). c.slots) in
    let b = length-map old (λ (c : Chain). c.slots) in
    same-numbers (all_slots new) (all_slots old) (a ∙ l ∙ sym b) (λ k less. slots_told new k ∙ e k (omega (arith, less, a, l)) ∙ sym (slots_told old k))

-- a finish leaves them
pub slots_after_finish : (j : Joining) (slots : List ℕ) (count : ℕ) (old new : List Chain) → AreTouchedBy j slots count old new → length old ≤ count → all_slots new ≡ all_slots old
slots_after_finish j slots count old new h l = slots_by_each old new h.number (λ o b. ap (λ (c : Chain). c.slots) (h.first o (omega (arith, b, l))) ∙ slots_stay j o (slice_index slots o) (chain_at old o))

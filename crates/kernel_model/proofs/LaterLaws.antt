-- What stands after a finish in serial order.
use Rattle.std.proofs.Common.{◌≡◌, ℕ, ◌<◌, ◌≤◌, Bool, true, false, List, ◌∷◌, Some, refl, sym, ◌∙◌, arith}
use Rattle.std.specs.List.{AllByRecursion}
use Rattle.std.proofs.lemmas.Bool.{ltb-true}
use Rattle.kernel_model.specs.Effects.{Programs, written}
use Rattle.kernel_model.specs.Items.{FinishRecord, precedes}
use Rattle.kernel_model.specs.Replay.{DeviceState}
use Rattle.kernel_model.specs.Intervals.{touches}
use Rattle.kernel_model.specs.History.{Follows, IsHistory}
use Rattle.kernel_model.proofs.Order.{precedes-newer}
use Rattle.kernel_model.proofs.Ordered.{both}
use Rattle.kernel_model.proofs.Theorem.{numbers_below}

-- an older finish with a later point touches nothing that the newer one writes
later_apart : (i x : FinishRecord) → x.number < i.number → Follows i x → precedes i x ≡ true → (o : ℕ) (words : List ℕ) → written i.run.writes o ≡ Some words → touches x o ≡ false
later_apart i x l f e o words w = go (touches x o) refl
  where
    later : i.point < x.point
    later = ltb-true i.point x.point (sym (precedes-newer i x l) ∙ e)

    go : (b : Bool) → touches x o ≡ b → b ≡ false
    go false t = refl
    go true t = let k : x.point ≤ i.point = f.touched o words w t in absurd (omega (arith, k, later))

-- so with all older ones
pub later-apart : (whole : Programs) (base : DeviceState) (i : FinishRecord) (history : List FinishRecord) → IsHistory whole base (i ∷ history) →
    AllByRecursion (λ x. precedes i x ≡ true → (o : ℕ) (words : List ℕ) → written i.run.writes o ≡ Some words → touches x o ≡ false) history
later-apart whole base i history h =
    both (λ x. x.number < i.number) (Follows i) (λ x. precedes i x ≡ true → (o : ℕ) (words : List ℕ) → written i.run.writes o ≡ Some words → touches x o ≡ false)
    (λ x l f. later_apart i x l f) history older h.ordered.0
  where
    older : AllByRecursion (λ x. x.number < i.number) history
    older = rw h.numbered.0.0 (numbers_below base history (h.numbered.0.2, h.numbered.1.1))

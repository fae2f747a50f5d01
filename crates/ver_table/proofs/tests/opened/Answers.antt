use Rattle.std.proofs.Common.{◌≡◌, ◌<◌, ℕ, zero, suc, List, [], ◌∷◌, length, map, refl, arith}
use Rattle.std.specs.Prelude.{slice_index}
use Rattle.set_model.specs.Sets.{ObjPart, TaskSet, object_at}
use Rattle.ver_table.specs.Chains.{AreNamed}
use Rattle.ver_table.proofs.tests.opened.Goals as goal

-- two objects with a slot each have the first one named
named : (set : TaskSet) (parts : List ObjPart) → set.objects ≡ parts → length parts ≡ 2 → 0 < (object_at set 0).slots → 0 < (object_at set 1).slots → AreNamed (map (λ (p : ObjPart). p.slots) parts) (0 ∷ 0 ∷ [])
named set [] e n x y = absurd (omega (arith, n))
named set (a ∷ []) e n x y = absurd (omega (arith, n))
named set (a ∷ b ∷ []) e n x y = record { number = refl; each = at (rw e at x) (rw e at y) }
  where
    at : 0 < a.slots → 0 < b.slots → (o : ℕ) → o < 2 → slice_index (0 ∷ 0 ∷ []) o < slice_index (a.slots ∷ b.slots ∷ []) o
    at x y zero l = x
    at x y (suc zero) l = y
    at x y (suc (suc o)) l = absurd (omega (arith, l))
named set (a ∷ b ∷ d ∷ parts) e n x y = absurd (omega (arith, n))

pub open-requires : goal.open-requires
open-requires c =
    named c.in-Ok.set c.in-Ok.set.objects refl (omega (arith, c.objects.ensures.exact, c.if-objects-ne2.false)) (omega (arith, c.slots.ensures.limits.slots.0)) (omega (arith, c.slots-else-slots.ensures.limits.slots.0))

use Rattle.std.proofs.Common.{◌≡◌, ◌<◌, ℕ, zero, suc, List, [], ◌∷◌, length, map, refl, sym, subst, arith}
use Rattle.std.specs.Prelude.{slice_index}
use Rattle.std.proofs.lemmas.List.{length-map}
use Rattle.std.specs.List.{AllByRecursion}
use Rattle.interval.specs.declared.version.Version.{Version}
use Rattle.set_model.specs.Sets.{ObjPart, TaskSet, object_at}
use Rattle.ver_table.specs.Chains.{AreNamed}
use Rattle.small_kernel.proofs.Stands.{Stands, first_stands}
use Rattle.small_kernel.proofs.standing.Table.opened.Goals as goal

-- three objects with a slot each have the first one named
named : (set : TaskSet) (parts : List ObjPart) → set.objects ≡ parts → length parts ≡ 3 → 0 < (object_at set 0).slots → 0 < (object_at set 1).slots → 0 < (object_at set 2).slots → AreNamed (map (λ (p : ObjPart). p.slots) parts) (0 ∷ 0 ∷ 0 ∷ [])
named set [] e n x y z = absurd (omega (arith, n))
named set (a ∷ []) e n x y z = absurd (omega (arith, n))
named set (a ∷ b ∷ []) e n x y z = absurd (omega (arith, n))
named set (a ∷ b ∷ d ∷ []) e n x y z = record { number = refl; each = at (rw e at x) (rw e at y) (rw e at z) }
  where
    at : 0 < a.slots → 0 < b.slots → 0 < d.slots → (o : ℕ) → o < 3 → slice_index (0 ∷ 0 ∷ 0 ∷ []) o < slice_index (a.slots ∷ b.slots ∷ d.slots ∷ []) o
    at x y z zero l = x
    at x y z (suc zero) l = y
    at x y z (suc (suc zero)) l = z
    at x y z (suc (suc (suc o))) l = absurd (omega (arith, l))
named set (a ∷ b ∷ d ∷ f ∷ parts) e n x y z = absurd (omega (arith, n))

pub open-requires : goal.open-requires
open-requires c =
    named c.args.set.now c.args.set.now.objects refl (omega (arith, c.objects.ensures.exact, c.if-objects-ne3.false)) (omega (arith, c.slots.ensures.limits.slots.0)) (omega (arith, c.slots-else-slots-eq0.ensures.limits.slots.0))
    (omega (arith, c.slots-else-slots-eq0-2.ensures.limits.slots.0))

pub invariant_of-result : goal.invariant_of-result
invariant_of-result c =
    let chains = c.in_ok-versions.versions in
    let sizes = map (λ (p : ObjPart). p.slots) c.args.set.now.objects in
    let long = length-map c.args.set.now.objects (λ (p : ObjPart). p.slots) in
    let three : length sizes ≡ 3 = omega (arith, long, c.objects.ensures.exact, c.if-objects-ne3.false) in
    let first = first_stands sizes c.args.clock chains c.in_ok-versions.ensures in
    subst (λ (vs : List Version). AllByRecursion (Stands chains) vs) (sym c.in_ok-stands.ensures.items) (
      first c.first.result 0 (omega (arith, three)) refl c.first.ensures,
      (
        first c.first-2.result 1 (omega (arith, three)) refl c.first-2.ensures,
        (
          first c.first-3.result 2 (omega (arith, three)) refl c.first-3.ensures,
          tt,
        ),
      ),
    )

pub returns : goal.returns
returns c = c.slots_stay.ensures.opened _ _ _ _ c.in_ok-versions.ensures

-- Where each word of a commit goes.
use Rattle.std.proofs.Common.{◌≡◌, ℕ, ◌-◌, ◌<◌, Bool, true, false, cond, ltb, eqb, List, [], ◌∷◌, get_or, Some, refl, ap, ◌∙◌, subst, arith, eq-eqb, eqb-true, ne_eqb}
use Rattle.std.specs.List.{AllByRecursion}
use Rattle.std.proofs.lemmas.Bool.{ltb-true}
use Rattle.kernel_model.specs.Sizes.{Sizes}
use Rattle.kernel_model.specs.Effects.{Write, written}
use Rattle.kernel_model.specs.Fit.{InObjectOrder, IsWrite}
use Rattle.slot_model.specs.Kept.{Kept}
use Rattle.slot_model.specs.Store.{Target, target}
use Rattle.slot_model.specs.Standing.{IsTarget}

pub target_in : (sizes : Sizes) (kept : Kept) (made : ℕ) (ws : List Write) (t : Target) → InObjectOrder ws → AllByRecursion (IsWrite sizes) ws → AllByRecursion (λ w. kept.plan w.object < sizes.slots w.object) ws → target sizes made ws ≡ Some t → IsTarget sizes kept ws t
target_in sizes kept made [] t o r p e = absurd (cc e)
target_in sizes kept made (w ∷ ws) t o r p e = go (target_in sizes kept (made - sizes.size w.object) ws t o.1 r.1 p.1) (ltb made (sizes.size w.object)) refl e
  where
    apart : (vs : List Write) → AllByRecursion (λ v. w.object < v.object) vs → (q : ℕ) (words : List ℕ) → written vs q ≡ Some words → w.object < q
    apart [] k q words f = absurd (cc f)
    apart (v ∷ vs) k q words f = by (apart vs k.1 q words) (eqb v.object q) refl f
      where
        by : (written vs q ≡ Some words → w.object < q) → (b : Bool) → eqb v.object q ≡ b → cond b (Some v.words) (written vs q) ≡ Some words → w.object < q
        by rest true g f = let l : w.object < v.object = k.0 in omega (arith, l, eqb-true v.object q g)
        by rest false g f = rest f

    go : (target sizes (made - sizes.size w.object) ws ≡ Some t → IsTarget sizes kept ws t) → (b : Bool) → ltb made (sizes.size w.object) ≡ b →
        cond b (Some (let u : Target = record { object = w.object; place = made; word = get_or w.words made 0 } in u)) (target sizes (made - sizes.size w.object) ws) ≡ Some t → IsTarget sizes kept (w ∷ ws) t
    go rest true f e =
        let same : record { object = w.object; place = made; word = get_or w.words made 0 } ≡ t = cc e in
        subst (IsTarget sizes kept (w ∷ ws)) same (record { object = r.0.object; slot = p.0; place = ltb-true made (sizes.size w.object) f; words = w.words; written_is = ap (λ b. cond b (Some w.words) (written ws w.object)) (eq-eqb w.object w.object refl); word_is = refl })
    go rest false f e =
        let k = rest e in
        let l : w.object < t.object = apart ws o.0 t.object k.words k.written_is in
        record { object = k.object; slot = k.slot; place = k.place; words = k.words; written_is = ap (λ b. cond b (Some w.words) (written ws t.object)) (ne_eqb w.object t.object (λ g. absurd (omega (arith, l, g)))) ∙ k.written_is; word_is = k.word_is }

use Rattle.std.proofs.Common.{◌≡◌, ◌∷◌, ℕ, ◌<◌, ◌≤◌, ◌+◌, ◌*◌, [], length, ap₂, arith, rules, ◌∙◌}
use Rattle.std.proofs.lemmas.List.{length-set}
use Rattle.set_model.specs.Sets.{ObjPart, object_at}
use Rattle.device_model.specs.Layouts.{slots_words, words_before}
use Rattle.device_model.proofs.ForCallers.{before-more, before-zero}
use Rattle.shadow_index.proofs.Filling.{few_more, few_words, row_at_more, slot_row, two}
use Rattle.shadow_index.proofs.tables.slot_places.Goals as goal

pub loop-o-init : goal.loop-o-init
loop-o-init c =
    let none = before-zero c.args.set.now.objects in
    record { long = search rules; at = omega (arith, none); few = omega (arith, none); small = λ o l. absurd (omega arith); done = λ o slot l. absurd (omega arith) }

pub loop-o-preserved : goal.loop-o-preserved
loop-o-preserved c =
    let set = c.args.set.now in
    let o = c.loop-o.o in
    let at = c.loop-o.invariant.at in
    let long = c.loop-o.invariant.long in
    let few = c.loop-o.invariant.few in
    let most = c.objects-o-end.ensures.few in
    let i : o < length set.objects = omega (arith, c.objects-o-end.ensures.exact) in
    let none : ObjPart = record { name = []; size = 0; slots = 0; first = [] } in
    let more : words_before set.objects (o + 1) ≡ words_before set.objects o + slots_words (object_at set o) = before-more set.objects none o i in
    let size : c.from-size.result ≡ (object_at set o).size = c.from-size.ensures ∙ c.size.ensures.exact in
    let slots : c.from-in-loop-o.result ≡ (object_at set o).slots = c.from-in-loop-o.ensures ∙ c.slots.ensures.exact in
    let words : c.from-size.result * c.from-in-loop-o.result ≡ slots_words (object_at set o) = ap₂ (λ (a b : ℕ). a * b) size slots in
    let small : slots_words (object_at set o) ≤ 512 = few_words (object_at set o) c.size.ensures.limits in
    record {
      long = length-set c.loop-o.places c.from.result (c.loop-o.at ∷ c.from-size.result ∷ []) ∙ long;
      at = omega (arith, at, more, words);
      few = omega (arith, few, more, small);
      small = few_more set.objects o few c.loop-o.invariant.small;
      done = row_at_more (slot_row c.args.slots_at set) c.loop-o.places o 2 c.from.result (c.loop-o.at ∷ c.from-size.result ∷ []) c.from.ensures (omega (arith, long, most, i, c.objects-o-end.ensures.exact))
          (two (slot_row c.args.slots_at set o) c.loop-o.at c.from-size.result at size) c.loop-o.invariant.done;
    }

pub returns-clause-first : goal.returns-clause-first
returns-clause-first c = λ o l. c.loop-o.invariant.done o 0 (omega (arith, l, c.objects-o-end.ensures.exact, c.loop-o-test.false)) (omega arith)

pub returns-clause-size : goal.returns-clause-size
returns-clause-size c = λ o l. c.loop-o.invariant.done o 1 (omega (arith, l, c.objects-o-end.ensures.exact, c.loop-o-test.false)) (omega arith)

pub returns-clause-small : goal.returns-clause-small
returns-clause-small c = λ o l.
    let few = c.loop-o.invariant.small o (omega (arith, l, c.objects-o-end.ensures.exact, c.loop-o-test.false)) in
    omega (arith, few, l, c.objects-o-end.ensures.exact, c.objects-o-end.ensures.few, c.requires)

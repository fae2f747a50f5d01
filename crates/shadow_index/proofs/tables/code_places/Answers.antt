use Rattle.std.proofs.Common.{◌≡◌, ℕ, ◌<◌, ◌+◌, [], length, refl, ap, arith, ◌∙◌}
use Rattle.std.proofs.lemmas.List.{length-set}
use Rattle.set_model.specs.Sets.{ProgPart, program_at}
use Rattle.device_model.specs.Layouts.{code_before, code_place}
use Rattle.shadow_index.proofs.Filling.{code_more, code_none, number_at_more}
use Rattle.shadow_index.proofs.tables.code_places.Goals as goal

pub loop-p-init : goal.loop-p-init
loop-p-init c =
    let none = code_none c.args.set.now.programs in
    record {
      long = refl;
      at = omega (arith, none, c.objects.ensures.exact, c.programs.ensures.exact, c.from.ensures, c.from-2.ensures);
      few = omega (arith, none);
      done = λ p l. absurd (omega arith);
    }

pub loop-p-preserved : goal.loop-p-preserved
loop-p-preserved c =
    let set = c.args.set.now in
    let p = c.loop-p.p in
    let at = c.loop-p.invariant.at in
    let long = c.loop-p.invariant.long in
    let few = c.loop-p.invariant.few in
    let i : p < length set.programs = omega (arith, c.programs-p-end.ensures.exact) in
    let most = c.programs-p-end.ensures.limits.programs in
    let none : ProgPart = record { name = []; fuel = 0; code = [] } in
    let more : code_before set.programs (p + 1) ≡ code_before set.programs p + length (program_at set p).code = code_more set.programs none p i in
    let words : length c.code.result.now ≡ length (program_at set p).code = ap (length {A = ℕ}) c.code.ensures.exact in
    let short = c.code.ensures.limits.code in
    let row : c.from-in-loop-p.result ≡ p = c.from-in-loop-p.ensures in
    record {
      long = length-set c.loop-p.places c.from-in-loop-p.result c.loop-p.at ∙ long;
      at = omega (arith, at, more, words);
      few = omega (arith, few, more, short);
      done = number_at_more (code_place set) c.loop-p.places p c.from-in-loop-p.result c.loop-p.at row (omega (arith, long, most.1, i)) at c.loop-p.invariant.done;
    }

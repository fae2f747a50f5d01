use Rattle.std.proofs.Common.{◌≡◌, ◌+◌, ◌-◌, length, slice_index, arith, ap, sym, ◌∙◌}
use Rattle.device_model.specs.Layouts.{header}
use Rattle.device_model.proofs.ForCallers.{header-object}
use Rattle.shadow_index.proofs.header.word_at.Goals as goal

pub returns-then-at-n : goal.returns-then-at-n
returns-then-at-n c =
    let set = c.args.set.now in
    let n : c.from-n.result ≡ length set.objects = omega arith in
    let e : c.args.at ≡ 7 + (c.args.at - 7) = omega arith in
    λ t. c.object_at.ensures ∙ sym (ap (slice_index (header c.args.magic set)) e ∙ header-object c.args.magic set (c.args.at - 7) (omega (arith, n)))

pub returns-then-at-n-2 : goal.returns-then-at-n-2
returns-then-at-n-2 c =
    let set = c.args.set.now in
    let n : c.from-n.result ≡ length set.objects = omega arith in
    let e : 7 + length set.objects + (c.args.at - (7 + c.from-n.result)) ≡ c.args.at = omega (arith, n) in
    λ t. c.program_at.ensures c.args.magic ∙ ap (slice_index (header c.args.magic set)) e

pub returns : goal.returns
returns c = c.code_at.ensures c.args.magic

use Rattle.std.proofs.Common.{◌≡◌, ℕ, ◌+◌, ◌*◌, ◌/◌, length, slice_index, arith, ap, sym, ◌∙◌}
use Rattle.device_model.specs.Layouts.{header}
use Rattle.device_model.proofs.ForCallers.{header-program}
use Rattle.shadow_index.proofs.header.program_at.Goals as goal

pub returns-then-i-eq0 : goal.returns-then-i-eq0
returns-then-i-eq0 c = λ magic.
    let set = c.args.set.now in
    let p : ℕ = c.args.i / 2 in
    let e : 7 + length set.objects + c.args.i ≡ 7 + length set.objects + 2 * p = omega arith in
    c.fuel.ensures.exact ∙ sym (ap (slice_index (header magic set)) e ∙ (header-program magic set p (omega arith)).0)

pub returns-else-i-eq0 : goal.returns-else-i-eq0
returns-else-i-eq0 c = λ magic.
    let set = c.args.set.now in
    let p : ℕ = c.args.i / 2 in
    let e : 7 + length set.objects + c.args.i ≡ 7 + length set.objects + (2 * p + 1) = omega arith in
    ap (length {A = ℕ}) c.code.ensures.exact ∙ sym (ap (slice_index (header magic set)) e ∙ (header-program magic set p (omega arith)).1)

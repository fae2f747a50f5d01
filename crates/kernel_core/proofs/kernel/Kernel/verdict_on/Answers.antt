use Rattle.std.proofs.Common.{◌≡◌, ℕ, List, get_or, ap₂, ◌∙◌, subst}
use Rattle.kernel_model.specs.Cores.{all_but}
use Rattle.core_seats.specs.declared.seat.Seat.{Seat}
use Rattle.core_seats.specs.Others.{views_in}
use Rattle.kernel_core.proofs.Verdicts.{few_others, is_verdict}
use Rattle.kernel_core.proofs.kernel.Kernel.verdict_on.Goals as goal

pub validate-requires-clause-few : goal.validate-requires-clause-few
validate-requires-clause-few c =
    let k = c.args.self.now in
    few_others k c.args.core.0 _ c.requires.ready c.requires.lawful.2.few (c.views_beside-count.ensures.views ∙ ap₂ (λ (n : ℕ) (seats : List Seat). views_in (all_but n seats)) c.from.ensures c.deref.ensures.value)

pub returns : goal.returns
returns c =
    let k = c.args.self.now in
    let n = c.args.core.0 in
    let s : Seat = c.index-seat.result.now in
    let at : s ≡ get_or k.seats.items n s = subst (λ (m : ℕ). s ≡ get_or k.seats.items m s) c.from-2.ensures c.index-seat.ensures in
    let views = c.views_beside-count.ensures.views ∙ ap₂ (λ (m : ℕ) (seats : List Seat). views_in (all_but m seats)) c.from.ensures c.deref.ensures.value in
    record { verdict = is_verdict k n s _ c.validate.result c.requires.ready at views c.validate.ensures }

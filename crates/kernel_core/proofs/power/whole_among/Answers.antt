use Rattle.std.proofs.Common.{ap, ◌∙◌, sym, arith}
use Rattle.kernel_core.specs.Failures.{whole_if}
use Rattle.kernel_core.proofs.Failing.{whole_found, whole_more}
use Rattle.kernel_core.proofs.power.whole_among.Goals as goal

pub returns-in-Some : goal.returns-in-Some
returns-in-Some c = whole_found c.args.seats.now c.loop-seat.seat-index c.seat-item.result c.in-Some.entry (omega arith) c.loop-seat.invariant (ap (λ s. whole_if s.saving) (sym c.seat-item.is) ∙ sym c.whole.ensures ∙ c.in-Some.is)

pub loop-seat-preserved : goal.loop-seat-preserved
loop-seat-preserved c = whole_more c.args.seats.now c.loop-seat.seat-index c.seat-item.result (omega arith) c.loop-seat.invariant (ap (λ s. whole_if s.saving) (sym c.seat-item.is) ∙ sym c.whole.ensures ∙ c.in_default.is)

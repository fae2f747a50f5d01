use Rattle.std.proofs.Common.{ℕ, List, refl, sym, subst, arith}
use Rattle.core_seats.specs.declared.seat.Seat.{Seat}
use Rattle.kernel_core.specs.Opening.{AreIdle}
use Rattle.kernel_core.proofs.Idle.{idle_more}
use Rattle.kernel_core.proofs.open.idle_seats.Goals as goal

pub loop-init : goal.loop-init
loop-init c = subst (λ (seats : List Seat). AreIdle c.args.set.now 0 seats) (sym c.in_ok-seats.ensures.items) (record { number = refl; all = tt })

pub loop-preserved : goal.loop-preserved
loop-preserved c = idle_more c.args.set.now c.loop.counter c.loop.seats.items c.push.new.self.items c.in_ok-new.field-0 c.loop.invariant (record { kept = c.in_ok-new.ensures.kept; vacant = c.in_ok-new.ensures.vacant }) c.in_ok-push.ensures.items

pub returns : goal.returns
returns c = subst (λ (n : ℕ). AreIdle c.args.set.now n c.loop.seats.items) (omega (arith, c.loop-test.false, c.loop.auto.counter-end, c.cores-end.ensures.exact)) c.loop.invariant

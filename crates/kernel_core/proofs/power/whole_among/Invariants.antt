use Rattle.std.proofs.Common.{◌≡◌, None, take}
use Rattle.kernel_core.specs.Failures.{whole_in}
use Rattle.kernel_core.proofs.power.whole_among.Given as goal

abbrev pub invariant-loop-seat : goal.invariant-loop-seat
invariant-loop-seat l = whole_in (take l.seat-index l.seats) ≡ None

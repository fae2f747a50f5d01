use Rattle.std.proofs.Common.{◌≡◌, ℕ, get_or, sym, ap, subst, refl}
use Rattle.core_seats.specs.declared.seat.Seat.{Seat}
use Rattle.kernel_core.specs.Deciding.{GivesUp}
use Rattle.kernel_core.proofs.Turned.{seated}
use Rattle.kernel_core.proofs.Waiting.{gives_up}
use Rattle.kernel_core.proofs.kernel.Kernel.give_up.Goals as goal

pub returns : goal.returns
returns c =
    let k = c.args.self.now in
    let n = c.args.core.0 in
    let s : Seat = c.index_mut-seat.result.now in
    let at : s ≡ get_or k.seats.items n s = subst (λ (m : ℕ). s ≡ get_or k.seats.items m s) c.from.ensures c.index_mut-seat.ensures.value in
    let gives = gives_up k n s c.clear.new.self c.task-task.result.0 c.requires.ready at (c.clear.ensures.kept k.set) c.clear.ensures.vacant (ap (λ x. x.0) c.task-task.ensures) in
    record { gives_up = subst (λ (m : ℕ). GivesUp k n (seated k m c.clear.new.self) c.task-task.result.0) (sym c.from.ensures) gives; rest = record { set = refl; room = refl }; live = refl }

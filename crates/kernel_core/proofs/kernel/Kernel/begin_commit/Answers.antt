use Rattle.std.proofs.Common.{◌≡◌, ℕ, get_or, sym, subst, refl}
use Rattle.nv_base.specs.declared.lines.Line.TheVariants as line
use Rattle.core_seats.specs.declared.seat.Seat.{Seat}
use Rattle.kernel_core.specs.Turns.{SeatTurns}
use Rattle.kernel_core.proofs.Beginning.{may_finish}
use Rattle.kernel_core.proofs.Begun.{begins, begun}
use Rattle.kernel_core.proofs.kernel.Kernel.begin_commit.Goals as goal

pub finish_into-requires-clause-records : goal.finish_into-requires-clause-records
finish_into-requires-clause-records c = let l = c.requires.lawful in (may_finish c.args.self.now l.0 l.1 c.args.core.0 c.from-number.result c.args.plan.now c.index_mut-seat.result.now c.spawns-spawns.result.now l.2 l.3 c.requires.ready c.from-number.ensures c.index_mut-seat.ensures.value c.requires.alone c.requires.granted c.spawns-spawns.ensures).records

pub finish_into-requires-clause-number : goal.finish_into-requires-clause-number
finish_into-requires-clause-number c = let l = c.requires.lawful in (may_finish c.args.self.now l.0 l.1 c.args.core.0 c.from-number.result c.args.plan.now c.index_mut-seat.result.now c.spawns-spawns.result.now l.2 l.3 c.requires.ready c.from-number.ensures c.index_mut-seat.ensures.value c.requires.alone c.requires.granted c.spawns-spawns.ensures).number

pub finish_into-requires-clause-first : goal.finish_into-requires-clause-first
finish_into-requires-clause-first c = let l = c.requires.lawful in (may_finish c.args.self.now l.0 l.1 c.args.core.0 c.from-number.result c.args.plan.now c.index_mut-seat.result.now c.spawns-spawns.result.now l.2 l.3 c.requires.ready c.from-number.ensures c.index_mut-seat.ensures.value c.requires.alone c.requires.granted c.spawns-spawns.ensures).first

pub finish_into-requires-clause-ids : goal.finish_into-requires-clause-ids
finish_into-requires-clause-ids c = let l = c.requires.lawful in (may_finish c.args.self.now l.0 l.1 c.args.core.0 c.from-number.result c.args.plan.now c.index_mut-seat.result.now c.spawns-spawns.result.now l.2 l.3 c.requires.ready c.from-number.ensures c.index_mut-seat.ensures.value c.requires.alone c.requires.granted c.spawns-spawns.ensures).ids

pub returns : goal.returns
returns c =
    let k = c.args.self.now in
    let n = c.args.core.0 in
    let s : Seat = c.index_mut-seat.result.now in
    let at : s ≡ get_or k.seats.items n s = subst (λ (m : ℕ). s ≡ get_or k.seats.items m s) c.from-number.ensures c.index_mut-seat.ensures.value in
    let turns = begins k n c.args.plan.now s c.grant.new.self c.spawns-spawns.result.now c.finish_into.new.after c.begin.new.self c.requires.ready at c.requires.alone c.requires.granted
    c.spawns-spawns.ensures c.finish_into.ensures.index c.finish_into.ensures.room c.finish_into.ensures.rest c.begin.ensures.set c.begin.ensures.begun c.grant.ensures.attempt c.grant.ensures.grants in
    record { turns = subst (λ (m : ℕ). SeatTurns k n (begun k m c.grant.new.self c.finish_into.new.after c.begin.new.self) line.Nothing) (sym c.from-number.ensures) turns; rest = record { set = refl; room = refl }; live = refl }

use Rattle.std.proofs.Common.{ℕ, None, Some, sym, ap, ◌∙◌, subst, refl}
use Rattle.core_seats.specs.declared.seat.Seat as own
use Rattle.core_seats.specs.Steps.{HasVersions, RunsOn}
use Rattle.nv_base.specs.declared.lines.Line.TheVariants as line
use Rattle.kernel_core.specs.Turns.{SeatTurns}
use Rattle.kernel_core.proofs.Advancing.{has_versions, is_stale, runs_on}
use Rattle.kernel_core.proofs.AtStage.{same_item}
use Rattle.kernel_core.proofs.Turned.{seated}
use Rattle.kernel_core.proofs.kernel.Kernel.run.Goals as goal

pub run-requires-clause-versions : goal.run-requires-clause-versions
run-requires-clause-versions c =
    let k = c.args.self.now in
    let l = c.requires.lawful in
    let g = c.requires.running in
    let same = same_item k.seats.items c.from.result c.args.core.0 c.index_mut-seat.result.now g.seat c.index_mut-seat.ensures.value c.from.ensures g.inside g.seat_is in
    subst (λ (s : own.Seat). HasVersions k.set s.reads k.committed.versions) (sym same) (has_versions k l.0 l.1 c.args.core.0 c.object_is_tabled.ensures c.chosen_is_place.ensures l.2 l.3 g)

pub returns-in-None : goal.returns-in-None
returns-in-None c =
    let k = c.args.self.now in
    let g = c.requires.running in
    let same = same_item k.seats.items c.from.result c.args.core.0 c.index_mut-seat.result.now g.seat c.index_mut-seat.ensures.value c.from.ensures g.inside g.seat_is in
    let runs = subst (λ (s : own.Seat). RunsOn k.set k.committed.versions s c.run.new.self None) same c.in-None.ensures.runs in
    record { turns = subst (λ (n : ℕ). SeatTurns k c.args.core.0 (seated k n c.run.new.self) line.Nothing) (sym c.from.ensures) (runs_on k c.args.core c.run.new.self g c.run.ensures.kept runs); rest = record { set = refl; room = refl }; live = refl }

pub returns-in-Some : goal.returns-in-Some
returns-in-Some c =
    let k = c.args.self.now in
    let g = c.requires.running in
    let same = same_item k.seats.items c.from.result c.args.core.0 c.index_mut-seat.result.now g.seat c.index_mut-seat.ensures.value c.from.ensures g.inside g.seat_is in
    let runs = subst (λ (s : own.Seat). RunsOn k.set k.committed.versions s c.run.new.self (Some c.in-Some.stale)) same c.in-Some.ensures.runs in
    let task = c.task-task.ensures ∙ ap (λ (s : own.Seat). s.attempt.task) same in
    record { turns = subst (λ (n : ℕ). SeatTurns k c.args.core.0 (seated k n c.run.new.self) (line.Stale c.args.core c.task-task.result c.in-Some.stale.lo c.in-Some.stale.hi)) (sym c.from.ensures) (is_stale k c.args.core c.run.new.self c.in-Some.stale c.task-task.result g c.run.ensures.kept runs task); rest = record { set = refl; room = refl }; live = refl }

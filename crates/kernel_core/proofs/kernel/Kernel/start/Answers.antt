use Rattle.std.proofs.Common.{ℕ, sym, ap, ◌∙◌, subst, refl}
use Rattle.core_seats.specs.Others.{tasks_in}
use Rattle.nv_base.specs.declared.lines.Line.TheVariants as line
use Rattle.kernel_core.specs.Turns.{SeatTurns}
use Rattle.kernel_core.proofs.Starting.{program_of, starts_none, starts_some}
use Rattle.kernel_core.proofs.Turned.{seated}
use Rattle.kernel_core.proofs.kernel.Kernel.start.Goals as goal

pub returns-in_default : goal.returns-in_default
returns-in_default c =
    let ids = c.held-count.ensures.tasks ∙ ap tasks_in c.deref.ensures.value in
    record { turns = starts_none c.args.self.now c.args.core.0 _ c.held_tasks_are_not_ready.ensures c.requires.blank ids c.in_default.ensures; rest = record { set = refl; room = refl }; live = refl }

pub start-requires-clause-program : goal.start-requires-clause-program
start-requires-clause-program c = program_of c.args.self.now c.requires.keeps.0 c.requires.keeps.1 _ c.in-Some.task c.requires.keeps.2 c.requires.blank.power c.in-Some.ensures

pub returns : goal.returns
returns c =
    let k = c.args.self.now in
    let ids = c.held-count.ensures.tasks ∙ ap tasks_in c.deref.ensures.value in
    let turns = starts_some k c.args.core _ c.in-Some.task c.start.new.self c.held_tasks_are_not_ready.ensures c.requires.blank ids c.in-Some.ensures c.start.ensures.kept c.start.ensures.stands in
    record { turns = subst (λ (n : ℕ). SeatTurns k c.args.core.0 (seated k n c.start.new.self) (line.Start c.args.core c.in-Some.task.id k.committed.state.clock)) (sym c.from.ensures) turns; rest = record { set = refl; room = refl }; live = refl }

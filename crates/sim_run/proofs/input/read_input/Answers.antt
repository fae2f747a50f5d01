use Rattle.std.proofs.Common.{sym, subst}
use Rattle.sim_run.specs.BeforeAnswerLine.{Unread}
use Rattle.sim_run.proofs.Inputs.{unread_stops}
use Rattle.sim_run.proofs.input.read_input.Goals as goal

pub returns-in-Err-clause-unread : goal.returns-in-Err-clause-unread
returns-in-Err-clause-unread g c =
    subst (Unread (g.S.Source.seen c.args.src.now) (g.S.Source.seen c.read_all.new.src)) (sym c.unread_as.ensures)
    (unread_stops (g.S.Source.seen c.args.src.now) (g.S.Source.seen c.read_all.new.src) c.in-Err.refusal c.in-Err.ensures.stops)

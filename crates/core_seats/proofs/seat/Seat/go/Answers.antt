use Rattle.std.proofs.Common.{sym, ◌∙◌}
use Rattle.core_seats.proofs.Running.{no_finish, runs_on}
use Rattle.core_seats.proofs.seat.Seat.go.Goals as goal

pub returns-clause-runs : goal.returns-clause-runs
returns-clause-runs c = λ t set chains.
    let none = no_finish c.args.self.now.saving (sym c.is_some.ensures ∙ c.if-is_some.false) in
    runs_on set chains c.args.self.now c.go.new.self none (c.go.ensures.running t).0 (c.go.ensures.running t).1 (c.go.ensures.advances t set)

use Rattle.schedule_model.specs.Failures.{events_of}
use Rattle.simulation.proofs.Counted.{none_untold, one_untold}
use Rattle.simulation.proofs.counting.count_lines.Goals as goal

pub returns-in-None-clause-counted : goal.returns-in-None-clause-counted
returns-in-None-clause-counted g c = λ o b.
    let h = c.in-Ok.ensures.counted o b in
    none_untold o (events_of c.args.schedule.now) c.in-Ok.tally (c.in-None.ensures o _ _ h.at) h.counts

pub returns-clause-counted : goal.returns-clause-counted
returns-clause-counted g c = λ o b.
    let h = c.in-Ok.ensures.counted o b in
    one_untold o (events_of c.args.schedule.now) c.in-Some.entry c.in-Ok.tally c.add.new.self (c.in-Some.ensures o _ _ h.at) h.counts c.add.ensures.counts

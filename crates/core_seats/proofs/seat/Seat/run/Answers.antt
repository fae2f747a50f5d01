use Rattle.core_seats.proofs.Running.{has_ended, reads_outside, runs_on}
use Rattle.core_seats.proofs.seat.Seat.run.Goals as goal

pub returns-in-Went-clause-runs : goal.returns-in-Went-clause-runs
returns-in-Went-clause-runs c = runs_on c.args.set.now c.args.versions.now c.args.self.now c.advance.new.self c.requires.trying c.requires.running c.in-Went.ensures.stage c.in-Went.ensures.advances

pub returns-in-Ready-clause-runs : goal.returns-in-Ready-clause-runs
returns-in-Ready-clause-runs c = has_ended c.args.set.now c.args.versions.now c.args.self.now c.advance.new.self c.requires.trying c.requires.running c.in-Ready.ensures.advances

pub returns-in-Fetch-clause-runs : goal.returns-in-Fetch-clause-runs
returns-in-Fetch-clause-runs c = reads_outside c.args.set.now c.args.versions.now c.args.self.now c.fetch.new.self c.advance.new.self c.in-Fetch.object c.fetch.result c.requires.trying c.requires.running c.in-Fetch.ensures.advances c.fetch.ensures.fetches

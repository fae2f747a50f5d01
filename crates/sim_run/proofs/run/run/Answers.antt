use Rattle.std.proofs.Common.{sym, ◌∙◌}
use Rattle.schedule_model.specs.Failures.{events_of}
use Rattle.simulation.specs.Stores.{store}
use Rattle.sim_run.proofs.Promising.{none_written, script_refused}
use Rattle.sim_run.proofs.SameCores.{same_cores}
use Rattle.sim_run.proofs.Starting.{same_script}
use Rattle.sim_run.proofs.Stopped.{same_stop}
use Rattle.sim_run.proofs.run.run.Goals as goal

pub run_events-requires : goal.run_events-requires
run_events-requires g c = record { cores = same_cores c.args.input.now _ c.in-Ok.ensures.reads }

pub returns-in-Ok-clause-headline : goal.returns-in-Ok-clause-headline
returns-in-Ok-clause-headline g c = λ done. record { script = _; reads = c.in-Ok.ensures.reads; run = c.run_events.ensures.headline done }

pub returns-in-Ok-clause-images : goal.returns-in-Ok-clause-images
returns-in-Ok-clause-images g c = λ s e.
    same_script c.args.how _ s _ (store g.F.Fram.start g.F.Fram.log g.F.Fram.lost c.args.dev.now) (store g.F.Fram.start g.F.Fram.log g.F.Fram.lost c.run_events.new.dev) c.run_events.result c.in-Ok.ensures.reads e
    (record { written = c.run_events.ensures.images; opened = c.run_events.ensures.opening; whole = c.run_events.ensures.whole })

pub returns-in-Ok-clause-stops : goal.returns-in-Ok-clause-stops
returns-in-Ok-clause-stops g c = λ s e.
    same_stop c.args.how _ s _ (store g.F.Fram.start g.F.Fram.log g.F.Fram.lost c.args.dev.now) (store g.F.Fram.start g.F.Fram.log g.F.Fram.lost c.run_events.new.dev) (g.K.Sink.seen c.args.out.now) (g.K.Sink.seen c.run_events.new.out) c.run_events.result c.in-Ok.ensures.reads e c.run_events.ensures.stops

pub returns-in-Err-clause-images : goal.returns-in-Err-clause-images
returns-in-Err-clause-images g c = λ s e.
    none_written c.args.how s.set (events_of s.schedule) (store g.F.Fram.start g.F.Fram.log g.F.Fram.lost c.args.dev.now) c.of_script.result (λ done. script_refused c.in-Err.refusal (sym c.of_script.ensures ∙ done))

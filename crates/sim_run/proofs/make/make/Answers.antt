use Rattle.std.proofs.Common.{sym, ◌∙◌}
use Rattle.simulation.specs.Stores.{store}
use Rattle.kernel_core.specs.declared.open.How.TheVariants.{Fresh}
use Rattle.sim_run.proofs.SameCores.{same_cores}
use Rattle.sim_run.proofs.Starting.{same_script}
use Rattle.sim_run.proofs.Summing.{same_untold}
use Rattle.schedule_model.specs.Failures.{events_of}
use Rattle.sim_run.proofs.Promising.{none_written, script_refused}
use Rattle.sim_run.proofs.make.make.Goals as goal

pub sum_up-requires : goal.sum_up-requires
sum_up-requires g c = record { cores = same_cores c.args.input.now _ c.in-Ok.ensures.reads }

pub returns-in-Ok-clause-headline : goal.returns-in-Ok-clause-headline
returns-in-Ok-clause-headline g c = λ done. record { script = _; reads = c.in-Ok.ensures.reads; run = c.sum_up.ensures.headline done }

pub returns-in-Ok-clause-images : goal.returns-in-Ok-clause-images
returns-in-Ok-clause-images g c = λ s e.
    same_script Fresh _ s _ (store g.F.Fram.start g.F.Fram.log g.F.Fram.lost c.args.dev.now) (store g.F.Fram.start g.F.Fram.log g.F.Fram.lost c.sum_up.new.dev) c.sum_up.result c.in-Ok.ensures.reads e
    (record { written = c.sum_up.ensures.images; opened = c.sum_up.ensures.opening; whole = c.sum_up.ensures.whole })

pub returns-in-Ok-clause-stops : goal.returns-in-Ok-clause-stops
returns-in-Ok-clause-stops g c = λ s e.
    same_untold _ s _ (store g.F.Fram.start g.F.Fram.log g.F.Fram.lost c.args.dev.now) (store g.F.Fram.start g.F.Fram.log g.F.Fram.lost c.sum_up.new.dev) (g.K.Sink.seen c.args.out.now) (g.K.Sink.seen c.sum_up.new.out) c.sum_up.result c.in-Ok.ensures.reads e c.sum_up.ensures.stops

pub returns-in-Err-clause-images : goal.returns-in-Err-clause-images
returns-in-Err-clause-images g c = λ s e.
    none_written Fresh s.set (events_of s.schedule) (store g.F.Fram.start g.F.Fram.log g.F.Fram.lost c.args.dev.now) c.of_script.result (λ done. script_refused c.in-Err.refusal (sym c.of_script.ensures ∙ done))

use Rattle.std.proofs.Common.{length, ap, ◌∙◌}
use Rattle.recovery.specs.Images.{words_of}
use Rattle.simulation.specs.Runs.{object_part}
use Rattle.simulation.proofs.Halting.{no_start}
use Rattle.simulation.proofs.objects.put_object.Goals as goal

pub returns-in_default-clause-halted : goal.returns-in_default-clause-halted
returns-in_default-clause-halted g c =
    (c.in_default.ensures.lost, no_start (object_part c.args.set.now (words_of (g.F.Fram.log c.args.dev.now) (g.F.Fram.start c.args.dev.now)) c.args.o.0) (g.K.Sink.seen c.args.out.now))

pub put_object-requires-clause-words : goal.put_object-requires-clause-words
put_object-requires-clause-words g c = ap length c.as_slice.ensures.value ∙ c.in-Ok.ensures.len

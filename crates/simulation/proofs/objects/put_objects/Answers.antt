use Rattle.std.proofs.Common.{◌<◌, length, refl, ap₂, ◌∙◌, subst, arith}
use Rattle.nv_base.specs.Streams.{PutsText}
use Rattle.device_model.specs.Words.{Words}
use Rattle.recovery.specs.Images.{words_of}
use Rattle.simulation.specs.Runs.{IsHalted, object_part, read_at}
use Rattle.simulation.proofs.Fronts.{puts_nothing}
use Rattle.simulation.proofs.ReadBack.{halted_object, last_object, next_object, read_keeps}
use Rattle.simulation.proofs.objects.put_objects.Goals as goal

pub loop-o-init : goal.loop-o-init
loop-o-init g c = record { puts = puts_nothing _; state = refl; room = refl; log = refl; start = refl; losses = omega arith }

pub returns-in-Err-clause-halted : goal.returns-in-Err-clause-halted
returns-in-Err-clause-halted g c =
    let set = c.args.set.now in
    let words = words_of (g.F.Fram.log c.args.dev.now) (g.F.Fram.start c.args.dev.now) in
    let inv = c.loop-o.invariant in
    let h = read_at set words in
    let same = ap₂ words_of inv.log inv.start in
    let sized = (read_keeps set words c.args.place.now.state c.objects-o-end.ensures.limits c.requires.read).held.objects in
    let less : c.loop-o.o < length set.objects = omega (arith, c.loop-o-test.true, c.objects-o-end.ensures.exact) in
    let halted = subst (λ (w : Words). IsHalted (object_part set w c.loop-o.o) (g.F.Fram.lost c.loop-o.dev) (g.F.Fram.lost c.put_object.new.dev) (g.K.Sink.seen c.loop-o.out) (g.K.Sink.seen c.put_object.new.out) c.in-Err.halt) same c.in-Err.ensures.halted in
    halted_object set.objects h.objects _ c.loop-o.o _ _ _ _ _ _ c.in-Err.halt less sized inv.losses inv.puts halted

pub loop-o-preserved : goal.loop-o-preserved
loop-o-preserved g c =
    let set = c.args.set.now in
    let words = words_of (g.F.Fram.log c.args.dev.now) (g.F.Fram.start c.args.dev.now) in
    let inv = c.loop-o.invariant in
    let h = read_at set words in
    let same = ap₂ words_of inv.log inv.start in
    let sized = (read_keeps set words c.args.place.now.state c.objects-o-end.ensures.limits c.requires.read).held.objects in
    let less : c.loop-o.o < length set.objects = omega (arith, c.loop-o-test.true, c.objects-o-end.ensures.exact) in
    let put = subst (λ (w : Words). PutsText (object_part set w c.loop-o.o) (g.K.Sink.seen c.loop-o.out) (g.K.Sink.seen c.put_object.new.out)) same c.in_default.ensures.put in
    record {
      puts = next_object set.objects h.objects _ c.loop-o.o _ _ _ less sized inv.puts put;
      state = c.put_object.ensures.state ∙ inv.state;
      room = c.put_object.ensures.room ∙ inv.room;
      log = c.put_object.ensures.log ∙ inv.log;
      start = c.put_object.ensures.start ∙ inv.start;
      losses = omega (arith, inv.losses, c.put_object.ensures.never_falls);
    }

pub returns-clause-put : goal.returns-clause-put
returns-clause-put g c =
    let set = c.args.set.now in
    let words = words_of (g.F.Fram.log c.args.dev.now) (g.F.Fram.start c.args.dev.now) in
    let sized = (read_keeps set words c.args.place.now.state c.objects-o-end.ensures.limits c.requires.read).held.objects in
    last_object set.objects (read_at set words).objects c.loop-o.o _ _ (omega (arith, c.loop-o-test.false, c.objects-o-end.ensures.exact)) sized c.loop-o.invariant.puts

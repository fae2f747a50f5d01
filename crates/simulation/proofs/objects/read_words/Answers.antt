use Rattle.std.proofs.Common.{length, ap, ap₂, sym, ◌∙◌, subst, arith}
use Rattle.std.proofs.lemmas.List.{take_all}
use Rattle.kernel_model.specs.Effects.{object_words}
use Rattle.device_model.specs.Words.{Words}
use Rattle.device_model.specs.Devices.{Device, HoldsOn}
use Rattle.shadow_index.specs.Tells.{device_of}
use Rattle.recovery.specs.Images.{IsStateOn, words_of}
use Rattle.simulation.specs.Runs.{read_at}
use Rattle.simulation.proofs.ReadBack.{next_word, read_keeps, read_slot, read_slots}
use Rattle.simulation.proofs.objects.read_words.Goals as goal

pub read_object-requires-clause-slots : goal.read_object-requires-clause-slots
read_object-requires-clause-slots g c = read_slots c.args.set.now (words_of (g.F.Fram.log c.args.dev.now) (g.F.Fram.start c.args.dev.now)) c.args.state.now c.objects.ensures.limits c.requires.read

pub read_object-requires-clause-slot : goal.read_object-requires-clause-slot
read_object-requires-clause-slot g c = read_slot c.args.set.now (words_of (g.F.Fram.log c.args.dev.now) (g.F.Fram.start c.args.dev.now)) c.args.state.now c.args.o.0 c.objects.ensures.limits c.requires.read c.requires.object

pub loop-i-preserved : goal.loop-i-preserved
loop-i-preserved g c =
    let set = c.args.set.now in
    let state = c.args.state.now in
    let words = words_of (g.F.Fram.log c.args.dev.now) (g.F.Fram.start c.args.dev.now) in
    let inv = c.loop-i.invariant in
    let r = c.requires.read in
    let h = read_at set words in
    let d = device_of set state.shift in
    let same = ap₂ words_of inv.log inv.start in
    let holds = subst (λ (w : Words). HoldsOn d h w) (sym same) (subst (λ (e : Device). HoldsOn e h words) (sym r.device) r.held) in
    let is = subst (λ (e : Device). IsStateOn e h state) (sym r.device) r.state in
    let size = (read_keeps set words state c.objects.ensures.limits r).held.words c.args.o.0 c.requires.object in
    let word = c.in-Ok.ensures.held h holds is in
    record {
      words =
          c.push_reserved.ensures.items
          ∙ next_word (object_words h.objects c.args.o.0) c.loop-i.into.items c.loop-i.i c.in-Ok.word (omega (arith, size, c.loop-i-test.true, c.size-i-end.ensures.exact)) inv.words word;
      room = c.push_reserved.ensures.capacity ∙ inv.room;
      log = c.read_object.ensures.log ∙ inv.log;
      start = c.read_object.ensures.start ∙ inv.start;
      losses = omega (arith, inv.losses, c.read_object.ensures.never_falls);
    }

pub returns-clause-words : goal.returns-clause-words
returns-clause-words g c =
    let set = c.args.set.now in
    let words = words_of (g.F.Fram.log c.args.dev.now) (g.F.Fram.start c.args.dev.now) in
    let size = (read_keeps set words c.args.state.now c.objects.ensures.limits c.requires.read).held.words c.args.o.0 c.requires.object in
    c.loop-i.invariant.words ∙ take_all c.loop-i.i (object_words (read_at set words).objects c.args.o.0) (omega (arith, size, c.loop-i-test.false, c.size-i-end.ensures.exact))

pub returns-clause-len : goal.returns-clause-len
returns-clause-len g c =
    let set = c.args.set.now in
    let words = words_of (g.F.Fram.log c.args.dev.now) (g.F.Fram.start c.args.dev.now) in
    let size = (read_keeps set words c.args.state.now c.objects.ensures.limits c.requires.read).held.words c.args.o.0 c.requires.object in
    ap length (c.loop-i.invariant.words ∙ take_all c.loop-i.i (object_words (read_at set words).objects c.args.o.0) (omega (arith, size, c.loop-i-test.false, c.size-i-end.ensures.exact))) ∙ size

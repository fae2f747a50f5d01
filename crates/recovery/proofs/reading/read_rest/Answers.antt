use Rattle.std.proofs.Common.{◌≡◌, ◌<◌, arith, ap₂, subst, sym}
use Rattle.device_model.specs.Words.{Words}
use Rattle.device_model.specs.Layouts.{reads}
use Rattle.device_model.specs.Devices.{layout_on}
use Rattle.recovery.specs.Images.{device_at, words_of}
use Rattle.recovery.proofs.reading.read_rest.Goals as goal

pub overflow_sub-end : goal.overflow_sub-end
overflow_sub-end g c =
    let words = words_of (g.F.Fram.log c.args.dev.now) (g.F.Fram.start c.args.dev.now) in
    let d = device_at c.args.set.now words in
    let h = c.requires.read in
    omega (arith, c.boot_turns-end.ensures d h.layout, h.some, h.most)

pub next-requires-clause-more : goal.next-requires-clause-more
next-requires-clause-more g c =
    let set = c.args.set.now in
    let words = words_of (g.F.Fram.log c.args.dev.now) (g.F.Fram.start c.args.dev.now) in
    let d = device_at set words in
    let turns = c.boot_turns-end.ensures d c.requires.read.layout in
    let l = c.loop.invariant in
    let same : words ≡ words_of (g.F.Fram.log c.loop.dev) (g.F.Fram.start c.loop.dev) = ap₂ words_of (sym l.log) (sym l.start) in
    subst (λ (w : Words). c.loop.reader.count < reads (layout_on (device_at set w))) same (omega (arith, turns, l.number, c.loop-test.true))

pub returns-clause-all : goal.returns-clause-all
returns-clause-all g c =
    let words = words_of (g.F.Fram.log c.args.dev.now) (g.F.Fram.start c.args.dev.now) in
    let d = device_at c.args.set.now words in
    let h = c.requires.read in
    let l = c.loop.invariant in
    omega (arith, c.boot_turns-end.ensures d h.layout, l.number, l.read.most, h.some, h.most, c.loop-test.false)

use Rattle.std.proofs.Common.{refl, sym, ◌∙◌}
use Rattle.recovery.specs.Images.{device_at, words_of}
use Rattle.recovery.proofs.MoreRead.{head_damaged, head_more}
use Rattle.recovery.proofs.reader.Reader.read_header.Goals as goal

pub returns-then-is_faulty-clause-refused : goal.returns-then-is_faulty-clause-refused
returns-then-is_faulty-clause-refused g c =
    let words = words_of (g.F.Fram.log c.args.dev.now) (g.F.Fram.start c.args.dev.now) in
    let d = device_at c.args.set.now words in
    let h = c.requires.read in
    head_damaged d words c.args.self.now c.args.into.now c.in-Ok.word h c.requires.head c.requires.other c.in-Ok.ensures.word (sym (c.is_faulty.ensures d h.layout refl h.some c.requires.other) ∙ c.if-is_faulty.true)

pub returns-clause-read : goal.returns-clause-read
returns-clause-read g c =
    let words = words_of (g.F.Fram.log c.args.dev.now) (g.F.Fram.start c.args.dev.now) in
    let d = device_at c.args.set.now words in
    let h = c.requires.read in
    let k = c.keep.ensures in
    head_more d words c.args.self.now _ c.args.into.now c.keep.new.into c.in-Ok.word h c.requires.head c.requires.other c.in-Ok.ensures.word (sym (c.is_faulty.ensures d h.layout refl h.some c.requires.other) ∙ c.if-is_faulty.false) refl refl k.boots k.other k.same

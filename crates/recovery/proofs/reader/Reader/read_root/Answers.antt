use Rattle.std.proofs.Common.{arith, ap, refl, sym, ◌∙◌}
use Rattle.device_model.specs.Devices.{layout_on}
use Rattle.recovery.specs.Images.{device_at, words_of}
use Rattle.recovery.proofs.PlacesRead.{root_low}
use Rattle.recovery.proofs.MoreRead.{laid, root_damaged, root_more}
use Rattle.recovery.proofs.reader.Reader.read_root.Goals as goal

pub read-requires : goal.read-requires
read-requires g c =
    let words = words_of (g.F.Fram.log c.args.dev.now) (g.F.Fram.start c.args.dev.now) in
    let d = device_at c.args.set.now words in
    let h = c.requires.read in
    omega (arith, c.root_at-at.ensures d h.layout, root_low d.set (layout_on d) (laid d h.limits), c.requires.room)

pub returns-then-not-is_root-clause-refused : goal.returns-then-not-is_root-clause-refused
returns-then-not-is_root-clause-refused g c =
    let words = words_of (g.F.Fram.log c.args.dev.now) (g.F.Fram.start c.args.dev.now) in
    let d = device_at c.args.set.now words in
    let h = c.requires.read in
    root_damaged d words c.args.self.now c.args.into.now c.root_at-at.result c.in-Ok.word h c.requires.root (c.root_at-at.ensures d h.layout) c.in-Ok.ensures.word (sym (c.if-not-is_root.ensures d h.layout))

pub returns-clause-read : goal.returns-clause-read
returns-clause-read g c =
    let words = words_of (g.F.Fram.log c.args.dev.now) (g.F.Fram.start c.args.dev.now) in
    let d = device_at c.args.set.now words in
    let h = c.requires.read in
    root_more d words c.args.self.now _ c.args.into.now _ c.in-Ok.word h c.requires.root (c.in-Ok.ensures.word ∙ ap words (c.root_at-at.ensures d h.layout)) (sym (c.if-not-is_root.ensures d h.layout)) refl refl refl

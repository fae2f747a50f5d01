use Rattle.std.proofs.Common.{◌≡◌, ℕ, ◌-◌, ◌<◌, arith, ap, refl, subst, sym}
use Rattle.device_model.specs.Layouts.{index_reads}
use Rattle.device_model.specs.Devices.{layout_on}
use Rattle.shadow_index.specs.States.{HasTaken}
use Rattle.recovery.specs.Images.{device_at, words_of}
use Rattle.recovery.proofs.PlacesRead.{index_low}
use Rattle.recovery.proofs.MoreRead.{false_of, index_damaged, index_more, laid, root_known, true_of}
use Rattle.recovery.proofs.reader.Reader.read_index.Goals as goal

pub index_at-at-requires : goal.index_at-at-requires
index_at-at-requires g c =
    let words = words_of (g.F.Fram.log c.args.dev.now) (g.F.Fram.start c.args.dev.now) in
    let d = device_at c.args.set.now words in
    let h = c.requires.read in
    let i : ℕ = c.args.self.now.count - c.head_reads.result in
    let i_is : i ≡ c.args.self.now.count - (layout_on d).head_reads = ap (λ (n : ℕ). c.args.self.now.count - n) (c.head_reads.ensures d h.layout) in
    let low : i < index_reads (layout_on d) = omega (arith, i_is, c.requires.more, c.requires.behind) in
    (d, h.layout, low)

pub read-requires : goal.read-requires
read-requires g c =
    let words = words_of (g.F.Fram.log c.args.dev.now) (g.F.Fram.start c.args.dev.now) in
    let d = device_at c.args.set.now words in
    let h = c.requires.read in
    let i : ℕ = c.args.self.now.count - c.head_reads.result in
    let i_is : i ≡ c.args.self.now.count - (layout_on d).head_reads = ap (λ (n : ℕ). c.args.self.now.count - n) (c.head_reads.ensures d h.layout) in
    let low : i < index_reads (layout_on d) = omega (arith, i_is, c.requires.more, c.requires.behind) in
    let root = (root_known d words c.args.self.now c.args.into.now h c.requires.behind).1 in
    let at_is = c.index_at-at.ensures d h.layout root low in
    omega (arith, at_is, index_low d.set (layout_on d) c.args.into.now.root i (laid d h.limits) root low, c.requires.room)

pub take-requires : goal.take-requires
take-requires g c =
    let words = words_of (g.F.Fram.log c.args.dev.now) (g.F.Fram.start c.args.dev.now) in
    let d = device_at c.args.set.now words in
    let h = c.requires.read in
    let i : ℕ = c.args.self.now.count - c.head_reads.result in
    let i_is : i ≡ c.args.self.now.count - (layout_on d).head_reads = ap (λ (n : ℕ). c.args.self.now.count - n) (c.head_reads.ensures d h.layout) in
    let low : i < index_reads (layout_on d) = omega (arith, i_is, c.requires.more, c.requires.behind) in
    subst (λ (j : ℕ). HasTaken c.args.set.now j c.args.into.now) (sym i_is) h.taken

pub returns-then-not-take-clause-refused : goal.returns-then-not-take-clause-refused
returns-then-not-take-clause-refused g c =
    let words = words_of (g.F.Fram.log c.args.dev.now) (g.F.Fram.start c.args.dev.now) in
    let d = device_at c.args.set.now words in
    let h = c.requires.read in
    let i : ℕ = c.args.self.now.count - c.head_reads.result in
    let i_is : i ≡ c.args.self.now.count - (layout_on d).head_reads = ap (λ (n : ℕ). c.args.self.now.count - n) (c.head_reads.ensures d h.layout) in
    let low : i < index_reads (layout_on d) = omega (arith, i_is, c.requires.more, c.requires.behind) in
    let root = (root_known d words c.args.self.now c.args.into.now h c.requires.behind).1 in
    let at_is = c.index_at-at.ensures d h.layout root low in
    index_damaged d words c.args.self.now c.args.into.now i c.index_at-at.result c.in-Ok.word h c.requires.more c.requires.behind i_is at_is c.in-Ok.ensures.word (true_of _ c.if-not-take.ensures.fault)

pub returns-clause-read : goal.returns-clause-read
returns-clause-read g c =
    let words = words_of (g.F.Fram.log c.args.dev.now) (g.F.Fram.start c.args.dev.now) in
    let d = device_at c.args.set.now words in
    let h = c.requires.read in
    let i : ℕ = c.args.self.now.count - c.head_reads.result in
    let i_is : i ≡ c.args.self.now.count - (layout_on d).head_reads = ap (λ (n : ℕ). c.args.self.now.count - n) (c.head_reads.ensures d h.layout) in
    let low : i < index_reads (layout_on d) = omega (arith, i_is, c.requires.more, c.requires.behind) in
    let root = (root_known d words c.args.self.now c.args.into.now h c.requires.behind).1 in
    let at_is = c.index_at-at.ensures d h.layout root low in
    let t = c.if-not-take.ensures in
    index_more d words c.args.self.now _ c.args.into.now c.take.new.self i c.index_at-at.result c.in-Ok.word h c.requires.more c.requires.behind i_is at_is c.in-Ok.ensures.word (false_of _ t.fault) refl refl c.take.ensures.rest (t.taken refl) (t.word refl) (t.before refl)

use Rattle.std.proofs.Common.{◌≡◌, length, ap₂, arith}
use Rattle.recovery.specs.Images.{words_of}
use Rattle.kernel_core.proofs.Moving.{cut_holds, front_begun, left, ready_holds, spared_cut, spared_moved}
use Rattle.kernel_core.proofs.kernel.Kernel.move_first.Goals as goal

pub returns-in-Ok-clause-ready : goal.returns-in-Ok-clause-ready
returns-in-Ok-clause-ready g c =
    let set = c.args.self.now.set in
    let log = g.F.Fram.log c.args.dev.now in
    let grown = g.F.Fram.log c.migrate.new.dev in
    let words = words_of log (g.F.Fram.start c.args.dev.now) in
    let later = words_of grown (g.F.Fram.start c.migrate.new.dev) in
    let two : set.format ≡ 2 = omega (arith, c.format.ensures.exact, c.format.ensures.limits.format, c.if-format-eq1.false) in
    left set _ words later log grown c.format.ensures.limits two c.requires.long (λ e. ap₂ words_of e c.migrate.ensures.start) c.in-Ok.ensures.migrated c.in-Ok.ensures.moved

pub returns-in-Err-clause-cut : goal.returns-in-Err-clause-cut
returns-in-Err-clause-cut g c =
    let set = c.args.self.now.set in
    let log = g.F.Fram.log c.args.dev.now in
    let words = words_of log (g.F.Fram.start c.args.dev.now) in
    let two : set.format ≡ 2 = omega (arith, c.format.ensures.exact, c.format.ensures.limits.format, c.if-format-eq1.false) in
    front_begun set _ words log (g.F.Fram.log c.migrate.new.dev) two c.in-Err.ensures.unwritten

pub returns-in-Ok-clause-left : goal.returns-in-Ok-clause-left
returns-in-Ok-clause-left g c =
    let set = c.args.self.now.set in
    let log = g.F.Fram.log c.args.dev.now in
    let grown = g.F.Fram.log c.migrate.new.dev in
    let words = words_of log (g.F.Fram.start c.args.dev.now) in
    let later = words_of grown (g.F.Fram.start c.migrate.new.dev) in
    let two : set.format ≡ 2 = omega (arith, c.format.ensures.exact, c.format.ensures.limits.format, c.if-format-eq1.false) in
    ready_holds set (length (g.F.Fram.start c.args.dev.now)) words later
    (left set _ words later log grown c.format.ensures.limits two c.requires.long (λ e. ap₂ words_of e c.migrate.ensures.start) c.in-Ok.ensures.migrated c.in-Ok.ensures.moved)

pub returns-in-Err-clause-left : goal.returns-in-Err-clause-left
returns-in-Err-clause-left g c =
    let set = c.args.self.now.set in
    let log = g.F.Fram.log c.args.dev.now in
    let grown = g.F.Fram.log c.migrate.new.dev in
    let words = words_of log (g.F.Fram.start c.args.dev.now) in
    cut_holds set _ words (words_of grown (g.F.Fram.start c.migrate.new.dev)) log grown (λ e. ap₂ words_of e c.migrate.ensures.start) c.in-Err.ensures.unwritten c.in-Err.ensures.cut

pub returns-in-Ok-clause-spared : goal.returns-in-Ok-clause-spared
returns-in-Ok-clause-spared g c = spared_moved c.args.self.now.set (length (g.F.Fram.start c.args.dev.now)) _ _ _ c.requires.long c.in-Ok.ensures.migrated

pub returns-in-Err-clause-spared : goal.returns-in-Err-clause-spared
returns-in-Err-clause-spared g c = spared_cut c.args.self.now.set (length (g.F.Fram.start c.args.dev.now)) _ _ _ c.requires.long c.in-Err.ensures.unwritten

use Rattle.std.proofs.Common.{false}
use Rattle.nv_base.specs.declared.lines.Line.TheVariants as line
use Rattle.recovery.specs.Images.{words_of}
use Rattle.kernel_core.proofs.Stepping.{saving_at, saving_cut, saving_image, saving_steps, saving_writes}
use Rattle.kernel_core.proofs.Unchanged.{is_false}
use Rattle.kernel_core.proofs.kernel.Kernel.pass_on_device.Goals as goal

pub returns-in-Ok-clause-steps : goal.returns-in-Ok-clause-steps
returns-in-Ok-clause-steps g c = λ yes.
    let k = c.args.self.now in
    let n = c.args.core.0 in
    let words = words_of (g.F.Fram.log c.args.dev.now) (g.F.Fram.start c.args.dev.now) in
    let later = words_of (g.F.Fram.log c.write.new.dev) (g.F.Fram.start c.write.new.dev) in
    let at = saving_at k n c.from.result c.index.result.now c.in-Some.saving false c.in_default.not-Boot c.requires.core c.requires.lawful.1.cores c.from.ensures c.index.ensures c.in-Some.is (is_false c.in-Some.saving.is_whole c.if-not-saving.true) in
    saving_steps k c.write.new.self words later n false line.Nothing at c.in-Ok.ensures.turns

pub returns-in-Ok-clause-written : goal.returns-in-Ok-clause-written
returns-in-Ok-clause-written g c = λ yes.
    let k = c.args.self.now in
    let n = c.args.core.0 in
    let log = g.F.Fram.log c.args.dev.now in
    let grown = g.F.Fram.log c.write.new.dev in
    let words = words_of log (g.F.Fram.start c.args.dev.now) in
    let later = words_of grown (g.F.Fram.start c.write.new.dev) in
    let at = saving_at k n c.from.result c.index.result.now c.in-Some.saving false c.in_default.not-Boot c.requires.core c.requires.lawful.1.cores c.from.ensures c.index.ensures c.in-Some.is (is_false c.in-Some.saving.is_whole c.if-not-saving.true) in
    saving_writes k words later n false log grown at c.in-Ok.ensures.written

pub returns-in-Ok-clause-image : goal.returns-in-Ok-clause-image
returns-in-Ok-clause-image g c = λ yes.
    let k = c.args.self.now in
    let n = c.args.core.0 in
    let log = g.F.Fram.log c.args.dev.now in
    let grown = g.F.Fram.log c.write.new.dev in
    let words = words_of log (g.F.Fram.start c.args.dev.now) in
    let later = words_of grown (g.F.Fram.start c.write.new.dev) in
    let at = saving_at k n c.from.result c.index.result.now c.in-Some.saving false c.in_default.not-Boot c.requires.core c.requires.lawful.1.cores c.from.ensures c.index.ensures c.in-Some.is (is_false c.in-Some.saving.is_whole c.if-not-saving.true) in
    saving_image k words later n false log grown at c.in-Ok.ensures.written

pub returns-in-Err-clause-cut : goal.returns-in-Err-clause-cut
returns-in-Err-clause-cut g c =
    let k = c.args.self.now in
    let n = c.args.core.0 in
    let log = g.F.Fram.log c.args.dev.now in
    let grown = g.F.Fram.log c.write.new.dev in
    let words = words_of log (g.F.Fram.start c.args.dev.now) in
    let later = words_of grown (g.F.Fram.start c.write.new.dev) in
    let at = saving_at k n c.from.result c.index.result.now c.in-Some.saving false c.in_default.not-Boot c.requires.core c.requires.lawful.1.cores c.from.ensures c.index.ensures c.in-Some.is (is_false c.in-Some.saving.is_whole c.if-not-saving.true) in
    saving_cut k words later n false log grown at c.in-Err.ensures.lost

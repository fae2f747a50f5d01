use Rattle.std.proofs.Common.{ap₂, sym, subst, true, false}
use Rattle.std.proofs.lemmas.Result.{IfOk-weaker}
use Rattle.device_model.specs.Words.{Words}
use Rattle.nv_base.specs.declared.lines.Line.TheVariants as line
use Rattle.recovery.specs.Images.{words_of}
use Rattle.kernel_core.specs.Steps.{HasImage, HasWritten, MayHaveWritten, Steps}
use Rattle.kernel_core.specs.Turns.{TurnsOn}
use Rattle.kernel_core.proofs.Stepping.{join_image, join_writes, on_err_here, on_ok_here, saving_at, saving_cut, saving_image, saving_steps, saving_writes, try_at, try_cut, try_image, try_steps, try_writes}
use Rattle.kernel_core.proofs.kernel.Kernel.step.Goals as goal

pub returns-in-None-clause-steps : goal.returns-in-None-clause-steps
returns-in-None-clause-steps g c =
    let k = c.args.self.now in
    let n = c.args.core.0 in
    let words = words_of (g.F.Fram.log c.args.dev.now) (g.F.Fram.start c.args.dev.now) in
    let at = try_at k n c.from.result c.index.result.now c.in_default.not-Boot c.requires.core c.requires.lawful.1.cores c.from.ensures c.index.ensures c.in-None.is in
    let e = c.step_try.ensures in
    let same = ap₂ words_of e.log e.start in
    IfOk-weaker c.step_try.result (TurnsOn words k n c.step_try.new.self) (Steps k n words c.step_try.new.self (words_of (g.F.Fram.log c.step_try.new.dev) (g.F.Fram.start c.step_try.new.dev)))
    (λ line turns. subst (λ (w : Words). Steps k n words c.step_try.new.self w line) (sym same) (try_steps k c.step_try.new.self words n (λ s. Unit {0}) line at turns)) e.steps

pub returns-in-None-clause-written : goal.returns-in-None-clause-written
returns-in-None-clause-written g c =
    let k = c.args.self.now in
    let n = c.args.core.0 in
    let log = g.F.Fram.log c.args.dev.now in
    let words = words_of log (g.F.Fram.start c.args.dev.now) in
    let at = try_at k n c.from.result c.index.result.now c.in_default.not-Boot c.requires.core c.requires.lawful.1.cores c.from.ensures c.index.ensures c.in-None.is in
    on_ok_here c.step_try.result (subst (HasWritten k n words log) (sym c.step_try.ensures.log) (try_writes k words n (λ s. Unit {0}) log at))

pub returns-in-None-clause-image : goal.returns-in-None-clause-image
returns-in-None-clause-image g c =
    let k = c.args.self.now in
    let n = c.args.core.0 in
    let words = words_of (g.F.Fram.log c.args.dev.now) (g.F.Fram.start c.args.dev.now) in
    let at = try_at k n c.from.result c.index.result.now c.in_default.not-Boot c.requires.core c.requires.lawful.1.cores c.from.ensures c.index.ensures c.in-None.is in
    on_ok_here c.step_try.result (subst (HasImage k n words) (sym (ap₂ words_of c.step_try.ensures.log c.step_try.ensures.start)) (try_image k words n (λ s. Unit {0}) at))

pub returns-in-None-clause-cut : goal.returns-in-None-clause-cut
returns-in-None-clause-cut g c =
    let k = c.args.self.now in
    let n = c.args.core.0 in
    let log = g.F.Fram.log c.args.dev.now in
    let words = words_of log (g.F.Fram.start c.args.dev.now) in
    on_err_here c.step_try.result (subst (MayHaveWritten k n words (words_of (g.F.Fram.log c.step_try.new.dev) (g.F.Fram.start c.step_try.new.dev)) log) (sym c.step_try.ensures.log) (try_cut k words _ n log))

pub returns-in-Some-clause-steps : goal.returns-in-Some-clause-steps
returns-in-Some-clause-steps g c =
    let k = c.args.self.now in
    let n = c.args.core.0 in
    let words = words_of (g.F.Fram.log c.args.dev.now) (g.F.Fram.start c.args.dev.now) in
    let at = saving_at k n c.from.result c.index.result.now c.in-Some.saving true c.in_default.not-Boot c.requires.core c.requires.lawful.1.cores c.from.ensures c.index.ensures c.in-Some.is c.if-saving.true in
    saving_steps k c.join.new.self words words n true c.join.result at (c.join.ensures.turns words)

pub returns-in-Some-clause-written : goal.returns-in-Some-clause-written
returns-in-Some-clause-written g c =
    let k = c.args.self.now in
    let n = c.args.core.0 in
    let log = g.F.Fram.log c.args.dev.now in
    let words = words_of log (g.F.Fram.start c.args.dev.now) in
    join_writes k words n log (saving_at k n c.from.result c.index.result.now c.in-Some.saving true c.in_default.not-Boot c.requires.core c.requires.lawful.1.cores c.from.ensures c.index.ensures c.in-Some.is c.if-saving.true)

pub returns-in-Some-clause-image : goal.returns-in-Some-clause-image
returns-in-Some-clause-image g c =
    let k = c.args.self.now in
    let n = c.args.core.0 in
    let words = words_of (g.F.Fram.log c.args.dev.now) (g.F.Fram.start c.args.dev.now) in
    join_image k words n (saving_at k n c.from.result c.index.result.now c.in-Some.saving true c.in_default.not-Boot c.requires.core c.requires.lawful.1.cores c.from.ensures c.index.ensures c.in-Some.is c.if-saving.true)

pub returns-in-Ok-clause-steps : goal.returns-in-Ok-clause-steps
returns-in-Ok-clause-steps g c =
    let k = c.args.self.now in
    let n = c.args.core.0 in
    let words = words_of (g.F.Fram.log c.args.dev.now) (g.F.Fram.start c.args.dev.now) in
    let later = words_of (g.F.Fram.log c.write.new.dev) (g.F.Fram.start c.write.new.dev) in
    let at = saving_at k n c.from.result c.index.result.now c.in-Some.saving false c.in_default.not-Boot c.requires.core c.requires.lawful.1.cores c.from.ensures c.index.ensures c.in-Some.is c.if-saving.false in
    saving_steps k c.write.new.self words later n false line.Nothing at c.in-Ok.ensures.turns

pub returns-in-Ok-clause-written : goal.returns-in-Ok-clause-written
returns-in-Ok-clause-written g c =
    let k = c.args.self.now in
    let n = c.args.core.0 in
    let log = g.F.Fram.log c.args.dev.now in
    let grown = g.F.Fram.log c.write.new.dev in
    let words = words_of log (g.F.Fram.start c.args.dev.now) in
    let later = words_of grown (g.F.Fram.start c.write.new.dev) in
    let at = saving_at k n c.from.result c.index.result.now c.in-Some.saving false c.in_default.not-Boot c.requires.core c.requires.lawful.1.cores c.from.ensures c.index.ensures c.in-Some.is c.if-saving.false in
    saving_writes k words later n false log grown at c.in-Ok.ensures.written

pub returns-in-Ok-clause-image : goal.returns-in-Ok-clause-image
returns-in-Ok-clause-image g c =
    let k = c.args.self.now in
    let n = c.args.core.0 in
    let log = g.F.Fram.log c.args.dev.now in
    let grown = g.F.Fram.log c.write.new.dev in
    let words = words_of log (g.F.Fram.start c.args.dev.now) in
    let later = words_of grown (g.F.Fram.start c.write.new.dev) in
    let at = saving_at k n c.from.result c.index.result.now c.in-Some.saving false c.in_default.not-Boot c.requires.core c.requires.lawful.1.cores c.from.ensures c.index.ensures c.in-Some.is c.if-saving.false in
    saving_image k words later n false log grown at c.in-Ok.ensures.written

pub returns-in-Err-clause-cut : goal.returns-in-Err-clause-cut
returns-in-Err-clause-cut g c =
    let k = c.args.self.now in
    let n = c.args.core.0 in
    let log = g.F.Fram.log c.args.dev.now in
    let grown = g.F.Fram.log c.write.new.dev in
    let words = words_of log (g.F.Fram.start c.args.dev.now) in
    let later = words_of grown (g.F.Fram.start c.write.new.dev) in
    let at = saving_at k n c.from.result c.index.result.now c.in-Some.saving false c.in_default.not-Boot c.requires.core c.requires.lawful.1.cores c.from.ensures c.index.ensures c.in-Some.is c.if-saving.false in
    saving_cut k words later n false log grown at c.in-Err.ensures.lost

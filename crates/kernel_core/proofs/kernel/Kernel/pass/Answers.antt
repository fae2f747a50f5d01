use Rattle.std.proofs.Common.{◌≡◌, ◌<◌, length, ap₂, sym, subst, ◌∙◌}
use Rattle.rv_core.specs.State.{MachineState}
use Rattle.nv_base.specs.declared.lines.Line.TheVariants.{Nothing}
use Rattle.table_machine.specs.Tables.{Tables}
use Rattle.recovery.specs.Images.{words_of}
use Rattle.power_trace.specs.declared.event.Event.{Event}
use Rattle.power_trace.specs.declared.event.Event.TheVariants as event
use Rattle.kernel_core.specs.Keeping.{IsLawful, Keeps}
use Rattle.nv_base.specs.declared.ids.CoreId.{CoreId}
use Rattle.kernel_core.specs.Events.{CutsEvent, SimulatesEvent}
use Rattle.kernel_core.specs.Turns.{GoesAlone}
use Rattle.kernel_core.specs.declared.kernel.Kernel.{Kernel}
use Rattle.kernel_core.proofs.Lawful.{lawful_at}
use Rattle.kernel_core.proofs.Stepping.{core_cut, core_turns}
use Rattle.kernel_core.proofs.Unchanged.{core_passes}
use Rattle.kernel_core.proofs.kernel.Kernel.pass.Goals as goal

pub returns-then-pass_step-clause-simulates : goal.returns-then-pass_step-clause-simulates
returns-then-pass_step-clause-simulates g c = λ yes.
    let k = c.args.self.now in
    let log = g.F.Fram.log c.args.dev.now in
    let words = words_of log (g.F.Fram.start c.args.dev.now) in
    subst (λ (e : Event). SimulatesEvent k e words log c.pass_step.new.self words log Nothing) (sym c.in-Core.is)
    (core_passes k c.pass_step.new.self c.in-Core.core words log c.pass_step.ensures.rest c.requires.few (c.pass_step.ensures.passes c.if-pass_step.true))

pub pass_on_device-requires-clause-lawful : goal.pass_on_device-requires-clause-lawful
pass_on_device-requires-clause-lawful g c =
    let words = words_of (g.F.Fram.log c.args.dev.now) (g.F.Fram.start c.args.dev.now) in
    let at = c.requires.at.2 in
    let same = c.pass_step.ensures.kept c.if-pass_step.false in
    subst (λ (j : Kernel). (t : Tables MachineState) × Keeps j words t × IsLawful j words t) (sym same) (at.tables, at.keeps, lawful_at c.requires.at.0 c.args.self.now words c.requires.at.1 at)

pub returns-in-Ok-clause-simulates : goal.returns-in-Ok-clause-simulates
returns-in-Ok-clause-simulates g c = λ yes.
    let k = c.args.self.now in
    let j = c.pass_step.new.self in
    let log = g.F.Fram.log c.args.dev.now in
    let grown = g.F.Fram.log c.pass_on_device.new.dev in
    let words = words_of log (g.F.Fram.start c.args.dev.now) in
    let later = words_of grown (g.F.Fram.start c.pass_on_device.new.dev) in
    let same = c.pass_step.ensures.kept c.if-pass_step.false in
    let e = c.pass_on_device.ensures in
    let taken = c.in-Ok.is ∙ yes in
    subst (λ (x : Event). SimulatesEvent k x words log c.pass_on_device.new.self later grown Nothing) (sym c.in-Core.is)
    (subst (λ (x : Kernel). SimulatesEvent x (event.Core c.in-Core.core) words log c.pass_on_device.new.self later grown Nothing) same
    (core_turns j c.pass_on_device.new.self c.in-Core.core words later log grown Nothing e.rest (subst (λ (x : Kernel). length x.listing.items < x.room) (sym same) c.requires.few) (e.steps taken) (e.written taken) (e.image taken)))

pub returns-in-Err-clause-cut : goal.returns-in-Err-clause-cut
returns-in-Err-clause-cut g c =
    let k = c.args.self.now in
    let j = c.pass_step.new.self in
    let log = g.F.Fram.log c.args.dev.now in
    let grown = g.F.Fram.log c.pass_on_device.new.dev in
    let words = words_of log (g.F.Fram.start c.args.dev.now) in
    let later = words_of grown (g.F.Fram.start c.pass_on_device.new.dev) in
    let same = c.pass_step.ensures.kept c.if-pass_step.false in
    subst (λ (x : Event). CutsEvent k x words log later grown) (sym c.in-Core.is)
    (subst (λ (x : Kernel). CutsEvent x (event.Core c.in-Core.core) words log later grown) same
    (core_cut j c.in-Core.core words later log grown (λ e. ap₂ words_of e c.in-Err.ensures.start) c.in-Err.ensures.cut))

same_core : (a b : CoreId) → event.Core a ≡ event.Core b → a ≡ b
same_core a b e = cc e

pub returns-in-Ok-clause-goes : goal.returns-in-Ok-clause-goes
returns-in-Ok-clause-goes g c = λ no. λ core. λ is. λ alone.
    c.pass_step.ensures.goes c.if-pass_step.false (subst (λ (x : CoreId). GoesAlone c.args.self.now x.0) (same_core core c.in-Core.core (sym is ∙ c.in-Core.is)) alone)

use Rattle.std.proofs.Common.{ap₂, sym, subst}
use Rattle.recovery.specs.Images.{words_of}
use Rattle.power_trace.specs.declared.event.Event.{Event}
use Rattle.kernel_core.specs.Events.{CutsEvent, SimulatesEvent}
use Rattle.kernel_core.proofs.Stepping.{core_cut, core_turns, fail_turns}
use Rattle.kernel_core.proofs.kernel.Kernel.turn.Goals as goal

pub returns-in-Fail-clause-simulates : goal.returns-in-Fail-clause-simulates
returns-in-Fail-clause-simulates g c =
    let log = g.F.Fram.log c.args.dev.now in
    let words = words_of log (g.F.Fram.start c.args.dev.now) in
    subst (λ (e : Event). SimulatesEvent c.args.self.now e words log c.fail.new.self words log c.fail.result) (sym c.in-Fail.is)
    (fail_turns c.args.self.now c.fail.new.self words log c.fail.result c.fail.ensures.rest c.fail.ensures.listed c.fail.ensures.fails)

pub returns-in-Ok-clause-simulates : goal.returns-in-Ok-clause-simulates
returns-in-Ok-clause-simulates g c =
    let log = g.F.Fram.log c.args.dev.now in
    let grown = g.F.Fram.log c.step.new.dev in
    let words = words_of log (g.F.Fram.start c.args.dev.now) in
    let later = words_of grown (g.F.Fram.start c.step.new.dev) in
    let e = c.in-Ok.ensures in
    subst (λ (e : Event). SimulatesEvent c.args.self.now e words log c.step.new.self later grown c.in-Ok.line) (sym c.in-Core.is)
    (core_turns c.args.self.now c.step.new.self c.in-Core.core words later log grown c.in-Ok.line e.rest c.requires.few e.steps e.written e.image)

pub returns-in-Err-clause-cut : goal.returns-in-Err-clause-cut
returns-in-Err-clause-cut g c =
    let log = g.F.Fram.log c.args.dev.now in
    let grown = g.F.Fram.log c.step.new.dev in
    let words = words_of log (g.F.Fram.start c.args.dev.now) in
    let later = words_of grown (g.F.Fram.start c.step.new.dev) in
    subst (λ (e : Event). CutsEvent c.args.self.now e words log later grown) (sym c.in-Core.is)
    (core_cut c.args.self.now c.in-Core.core words later log grown (λ e. ap₂ words_of e c.in-Err.ensures.start) c.in-Err.ensures.cut)

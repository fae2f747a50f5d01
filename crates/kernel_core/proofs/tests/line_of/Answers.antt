use Rattle.std.proofs.Common.{◌≡◌, List, ap₂, sym, subst}
use Rattle.nv_base.specs.declared.lines.Line.{Line}
use Rattle.power_trace.specs.declared.event.Event.{Event}
use Rattle.device_model.specs.Words.{Change, Words}
use Rattle.recovery.specs.Images.{words_of}
use Rattle.kernel_core.specs.Events.{SimulatesEvent, Stands}
use Rattle.kernel_core.specs.declared.kernel.Kernel.{Kernel}
use Rattle.kernel_core.proofs.tests.line_of.Goals as goal

stands_after : (old new : Kernel) (e : Event) (words later : Words) (log grown : List Change) (line : Line) → SimulatesEvent old e words log new later grown line → Stands old words → Stands new later
unfolding SimulatesEvent
stands_after old new e words later log grown line turns s = (s.0, _, (turns s.0 s.1 s.2).next)

pub returns-in-Ok : goal.returns-in-Ok
returns-in-Ok g c =
    let k = c.args.kernel.now in
    let log = g.F.Fram.log in
    let start = g.F.Fram.start in
    let mid = c.may_turn.new.dev in
    let new = c.turn.new.dev in
    let same : words_of (log mid) (start mid) ≡ words_of (log c.args.dev.now) (start c.args.dev.now) = ap₂ words_of c.may_turn.ensures.log c.may_turn.ensures.start in
    stands_after k c.turn.new.self c.args.event (words_of (log mid) (start mid)) (words_of (log new) (start new)) (log mid) (log new) c.in-Ok.line c.in-Ok.ensures.simulates (subst (Stands k) (sym same) c.requires)

use Rattle.recovery.specs.Images.{words_of}
use Rattle.kernel_core.proofs.AtStage.{same_item}
use Rattle.kernel_core.proofs.Stepping.{never_fetches, on_words}
use Rattle.kernel_core.proofs.kernel.Kernel.step_try.Goals as goal

pub unreachable-requires : goal.unreachable-requires
unreachable-requires g c =
    let k = c.args.self.now in
    let l = c.requires.lawful in
    let at = c.requires.trying in
    let words = words_of (g.F.Fram.log c.args.dev.now) (g.F.Fram.start c.args.dev.now) in
    let same = same_item k.seats.items c.from.result c.args.core.0 c.index.result.now at.seat c.index.ensures c.from.ensures at.inside at.seat_is in
    never_fetches k words l.0 c.args.core.0 c.index.result.now c.in-Fetches.field-0 l.1 at same c.in-Fetches.ensures

pub returns-in-Nothing-clause-steps : goal.returns-in-Nothing-clause-steps
returns-in-Nothing-clause-steps g c = on_words c.args.self.now c.start.new.self c.args.core.0 c.start.result c.start.ensures.turns (words_of (g.F.Fram.log c.args.dev.now) (g.F.Fram.start c.args.dev.now))

pub returns-in-Runs-clause-steps : goal.returns-in-Runs-clause-steps
returns-in-Runs-clause-steps g c = on_words c.args.self.now c.run.new.self c.args.core.0 c.run.result c.run.ensures.turns (words_of (g.F.Fram.log c.args.dev.now) (g.F.Fram.start c.args.dev.now))

pub returns-in-Waits-clause-steps : goal.returns-in-Waits-clause-steps
returns-in-Waits-clause-steps g c = on_words c.args.self.now c.decide.new.self c.args.core.0 c.decide.result c.decide.ensures.turns (words_of (g.F.Fram.log c.args.dev.now) (g.F.Fram.start c.args.dev.now))

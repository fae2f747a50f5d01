use Rattle.std.proofs.Common.{sym, ◌∙◌, arith}
use Rattle.report.proofs.Values.{found, passed, no_program}
use Rattle.report.proofs.fields.program_of.Goals as goal

pub returns-then-eq : goal.returns-then-eq
returns-then-eq c = found (λ o. o.name) c.args.set.now.programs c.args.name.now c.loop-program.program no_program c.loop-program.invariant (omega (arith, c.loop-program-test.true, c.programs-program-end.ensures.exact)) (rw (sym c.program_name.ensures.exact) (sym c.eq.ensures ∙ c.if-eq.true))

pub loop-program-preserved : goal.loop-program-preserved
loop-program-preserved c = passed (λ o. o.name) c.args.set.now.programs c.args.name.now c.loop-program.program no_program c.loop-program.invariant (omega (arith, c.loop-program-test.true, c.programs-program-end.ensures.exact)) (rw (sym c.program_name.ensures.exact) (sym c.eq.ensures ∙ c.if-eq.false))

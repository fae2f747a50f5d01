use Rattle.std.proofs.Common.{sym, ◌∙◌, arith}
use Rattle.report.proofs.Values.{found, passed, no_object}
use Rattle.report.proofs.fields.object_of.Goals as goal

pub returns-then-eq : goal.returns-then-eq
returns-then-eq c = found (λ o. o.name) c.args.set.now.objects c.args.name.now c.loop-object.object no_object c.loop-object.invariant (omega (arith, c.loop-object-test.true, c.objects-object-end.ensures.exact)) (rw (sym c.object_name.ensures.exact) (sym c.eq.ensures ∙ c.if-eq.true))

pub loop-object-preserved : goal.loop-object-preserved
loop-object-preserved c = passed (λ o. o.name) c.args.set.now.objects c.args.name.now c.loop-object.object no_object c.loop-object.invariant (omega (arith, c.loop-object-test.true, c.objects-object-end.ensures.exact)) (rw (sym c.object_name.ensures.exact) (sym c.eq.ensures ∙ c.if-eq.false))

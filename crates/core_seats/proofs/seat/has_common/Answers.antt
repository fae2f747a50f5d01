use Rattle.std.proofs.Common.{sym, ap, ◌∙◌}
use Rattle.std.specs.List.{list_any}
use Rattle.object_sets.specs.ObjectSets.{is_among}
use Rattle.core_seats.proofs.Granted.{common_later, common_now}
use Rattle.core_seats.proofs.seat.has_common.Goals as goal

pub returns-then-has : goal.returns-then-has
returns-then-has c = sym (sym c.loop-o.invariant ∙ common_now c.args.written c.take_least.new.self c.loop-o.left c.in-Some.o.0 c.in-Some.ensures.taken (sym c.has.ensures.among ∙ c.if-has.true))

pub loop-o-preserved : goal.loop-o-preserved
loop-o-preserved c = sym (common_later c.args.written c.take_least.new.self c.loop-o.left c.in-Some.o.0 c.in-Some.ensures.taken (sym c.has.ensures.among ∙ c.if-has.false)) ∙ c.loop-o.invariant

pub returns : goal.returns
returns c = sym (ap (list_any (λ x. is_among x c.args.written)) c.in_default.ensures.taken.0) ∙ c.loop-o.invariant

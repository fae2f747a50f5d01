use Rattle.std.proofs.Common.{◌∙◌, arith}
use Rattle.task_model.proofs.TurnLists.{all_many, all_placed, all_turns, turn_more}
use Rattle.task_model.proofs.turns.turns.Goals as goal

pub loop-place-preserved : goal.loop-place-preserved
loop-place-preserved c = c.in_ok-push.ensures.items ∙ turn_more c.loop-place.turns.items c.args.listing.now c.loop-place.place _ (omega arith) c.loop-place.invariant

pub returns-clause-places : goal.returns-clause-places
returns-clause-places c = all_placed c.loop-place.turns.items c.args.listing.now c.loop-place.place (omega arith) c.loop-place.invariant

pub returns-clause-turns : goal.returns-clause-turns
returns-clause-turns c = all_turns c.loop-place.turns.items c.args.listing.now c.loop-place.place (omega arith) c.loop-place.invariant

pub returns-clause-many : goal.returns-clause-many
returns-clause-many c = all_many c.loop-place.turns.items c.args.listing.now c.loop-place.place (omega arith) c.loop-place.invariant

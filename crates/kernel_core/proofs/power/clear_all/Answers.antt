use Rattle.std.proofs.Common.{◌∙◌, subst, arith, replicate}
use Rattle.std.specs.List.{AllByRecursion}
use Rattle.std.proofs.lemmas.List.{length-set, take_all}
use Rattle.vol_copy.specs.Tries.{IsFor}
use Rattle.table_machine.specs.Tables.{Vacant}
use Rattle.core_seats.specs.Holding.{AreSeats, StandsFor}
use Rattle.core_seats.specs.declared.seat.Seat.{Seat}
use Rattle.kernel_core.proofs.Turned.{all_at, all_set}
use Rattle.kernel_core.proofs.Failing.{all_taken, vacant_seats}
use Rattle.kernel_core.proofs.power.clear_all.Goals as goal

pub loop-k-preserved : goal.loop-k-preserved
loop-k-preserved c =
    let seats = c.loop-k.seats.items in
    let k = c.loop-k.k in
    record {
      count = length-set seats k c.clear.new.self ∙ c.loop-k.invariant.count;
      kept = λ set h. let all = c.loop-k.invariant.kept set h in all_set (λ (s : Seat). IsFor set s.attempt) seats k c.clear.new.self all (c.clear.ensures.kept set (all_at (λ (s : Seat). IsFor set s.attempt) seats k c.index_mut.result.now all (omega (arith, c.loop-k.invariant.count)) c.index_mut.ensures.value));
      vacant = λ after. all_taken (λ (s : Seat). StandsFor s after Vacant) seats k c.clear.new.self (omega (arith, c.loop-k.invariant.count)) (c.loop-k.invariant.vacant after) (c.clear.ensures.vacant after);
    }

pub returns-clause-vacant : goal.returns-clause-vacant
returns-clause-vacant c = λ after.
    let seats = c.loop-k.seats.items in
    let all = subst (AllByRecursion (λ (s : Seat). StandsFor s after Vacant)) (take_all c.loop-k.k seats (omega (arith, c.loop-k.invariant.count))) (c.loop-k.invariant.vacant after) in
    subst (λ n. AreSeats seats after (replicate n Vacant)) c.loop-k.invariant.count (vacant_seats seats after all)

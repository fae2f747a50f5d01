use Rattle.std.proofs.Common.{true, ℕ, ◌<◌, set, length, arith, ap, subst}
use Rattle.std.specs.Vec.{with_item}
use Rattle.vol_copy.specs.Tries.{IsFor}
use Rattle.core_seats.specs.declared.seat.Seat as own
use Rattle.kernel_core.proofs.Writing.{by_saving, one_place}
use Rattle.kernel_core.proofs.MayJoin.{may_join}
use Rattle.kernel_core.proofs.Joined.{joins}
use Rattle.kernel_core.proofs.kernel.Kernel.join.Goals as goal

pub join-requires-clause-may : goal.join-requires-clause-may
join-requires-clause-may c =
    let k = c.args.self.now in
    let seat = c.index-seat.result.now in
    let at = by_saving k c.args.core.0 c.from-number.result true seat c.in-Some.saving c.requires.saving c.from-number.ensures c.index-seat.ensures c.in-Some.is in
    let finish = c.finish_of-finish.ensures in
    may_join k c.requires.lawful.0 c.requires.lawful.1 c.args.core.0 at c.requires.lawful.2 c.requires.lawful.3 c.finish_of-finish.result c.spawns.result.now
    (record { task = finish.task; point = finish.point; reads = finish.reads; written = finish.written }) c.spawns.ensures

pub returns-clause-turns : goal.returns-clause-turns
returns-clause-turns c =
    let k = c.args.self.now in
    let n = c.args.core.0 in
    let seat = c.index-seat.result.now in
    let at = by_saving k n c.from-number.result true seat c.in-Some.saving c.requires.saving c.from-number.ensures c.index-seat.ensures c.in-Some.is in
    let finish = c.finish_of-finish.ensures in
    let cut = c.cut_all.new.seats.items in
    let last = c.index_mut.result.now in
    let inside : n < length cut = let a = at.inside in let b = c.cut_all.ensures.number in omega (arith, a, b) in
    joins k n at c.finish_of-finish.result c.next_root-root.result c.join.new.self cut c.clear.new.self (with_item c.cut_all.new.seats c.from-number.result c.clear.new.self) c.push_reserved.new.self
    (record {
      joining = record { task = finish.task; point = finish.point; reads = finish.reads; written = finish.written };
      rooted = c.next_root-root.ensures;
      committed = c.join.ensures.committed;
      chains = c.join.ensures.chains;
      state_is = c.join.ensures.state;
      after_is = c.join.ensures.after;
      are_cut = c.cut_all.ensures;
      seats_are = ap (λ (m : ℕ). set cut m c.clear.new.self) c.from-number.ensures;
      kept = λ s e h. c.clear.ensures.kept k.set (subst (λ (u : own.Seat). IsFor k.set u.attempt) (one_place cut n c.from-number.result s last inside c.from-number.ensures e c.index_mut.ensures.value) h);
      vacant = c.clear.ensures.vacant;
      entries = c.push_reserved.ensures.items;
      capacity = c.push_reserved.ensures.capacity;
    })

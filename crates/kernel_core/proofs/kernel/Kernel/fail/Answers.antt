use Rattle.std.proofs.Common.{ap, ◌∙◌, sym, subst, length, replicate, arith}
use Rattle.std.specs.List.{AllByRecursion}
use Rattle.device_model.specs.Words.{Words}
use Rattle.shadow_index.specs.States.{HasTaken}
use Rattle.shadow_index.specs.declared.state.State.{State}
use Rattle.table_machine.specs.Tables.{Vacant}
use Rattle.recovery.specs.Booting.{IsBooting}
use Rattle.vol_copy.specs.Tries.{IsFor}
use Rattle.core_seats.specs.Holding.{AreSeats}
use Rattle.core_seats.specs.declared.seat.Seat.{Seat}
use Rattle.kernel_core.specs.declared.kernel.Kernel.{Kernel}
use Rattle.kernel_core.specs.declared.kernel.Power.TheVariants as power
use Rattle.kernel_core.specs.Failures.{whole_in}
use Rattle.kernel_core.proofs.Failing.{fails, few_listed}
use Rattle.kernel_core.proofs.kernel.Kernel.fail.Goals as goal

pub returns : goal.returns
returns c =
    let k = c.args.self.now in
    let seats = ap (λ (x : Kernel). x.seats.items) c.hide.ensures.rest in
    let same = ap (λ (x : Kernel). x.set) c.hide.ensures.rest in
    let room = ap (λ (x : Kernel). x.room) c.hide.ensures.rest in
    record {
      rest = record { set = same; room = room };
      live = ap (λ (x : Kernel). x.lost) c.hide.ensures.rest;
      listed = let n = few_listed c.whole_among-found.result k.listing.items c.hide.new.self.listing.items k.room c.hide.ensures.entries c.requires.few in omega (arith, n, room);
      fails = fails c.args.self.now (record c.hide.new.self { seats = c.clear_all.new.seats; power = power.Boot c.begin.result }) c.begin.result c.whole_among-found.result
          (ap (λ (x : Kernel). record x { seats = c.clear_all.new.seats; power = power.Boot c.begin.result }) c.hide.ensures.rest)
          (c.whole_among-found.ensures ∙ ap whole_in c.deref.ensures.value)
          c.hide.ensures.entries c.hide.ensures.owed c.hide.ensures.capacity (c.clear_all.ensures.count ∙ ap length seats)
          (λ set h. c.clear_all.ensures.kept set (subst (AllByRecursion (λ (s : Seat). IsFor set s.attempt)) (sym seats) h))
          (λ after. subst (λ xs. AreSeats c.clear_all.new.seats.items after (replicate (length xs) Vacant)) seats (c.clear_all.ensures.vacant after))
          c.begin.ensures.none (subst (λ set. (words : Words) (into : State) → HasTaken set 0 into → IsBooting set words c.begin.result into) same c.begin.ensures.ready);
    }

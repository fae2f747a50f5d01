use Rattle.std.proofs.Common.{◌≡◌, ◌<◌, map, ap, sym, ◌∙◌, arith}
use Rattle.interval.specs.Ranges.{range_of}
use Rattle.ver_table.specs.Chains.{Chain}
use Rattle.ver_table.specs.Places.{is_needed}
use Rattle.ver_table.proofs.Counts.{no_place, place_of_free}
use Rattle.ver_table.proofs.Shown.{shown, shown_ended}
use Rattle.ver_table.proofs.chain.Chain.free_slot.Goals as goal

pub returns-then-not-is_taken : goal.returns-then-not-is_taken
returns-then-not-is_taken c =
    let s = shown c.self.inside.slots c.self.inside.bound.0 c.self.inside.order.items c.self.inside.begins c.self.inside.ends c.args.self.now c.self.view_is c.self.invariant in
    let slots : c.self.inside.slots ≡ c.args.self.now.slots = ap (λ (x : Chain). x.slots) c.self.view_is in
    let inside : c.loop-slot.slot < c.args.self.now.slots = omega (arith, slots, c.loop-slot-test.true) in
    let free = sym c.is_taken.ensures ∙ c.if-not-is_taken.true in
    record {
      free = (
        place_of_free (is_needed c.args.o.0 (map range_of c.args.others.now) c.args.pins.now) c.args.self.now s.some s.are c.loop-slot.slot inside free,
        record { inside = inside; free = free; least = c.loop-slot.invariant },
      );
      laid = s;
      ended = shown_ended c.self.inside.slots c.self.inside.bound.0 c.self.inside.order.items c.self.inside.begins c.self.inside.ends c.args.self.now c.self.view_is c.self.invariant;
    }

pub returns : goal.returns
returns c =
    let s = shown c.self.inside.slots c.self.inside.bound.0 c.self.inside.order.items c.self.inside.begins c.self.inside.ends c.args.self.now c.self.view_is c.self.invariant in
    let slots : c.self.inside.slots ≡ c.args.self.now.slots = ap (λ (x : Chain). x.slots) c.self.view_is in
    record {
      free = no_place (is_needed c.args.o.0 (map range_of c.args.others.now) c.args.pins.now) c.args.self.now s.some s.are (λ k l. c.loop-slot.invariant k (omega (arith, l, slots, c.loop-slot-test.false)));
      laid = s;
      ended = shown_ended c.self.inside.slots c.self.inside.bound.0 c.self.inside.order.items c.self.inside.begins c.self.inside.ends c.args.self.now c.self.view_is c.self.invariant;
    }

use Rattle.std.proofs.Common.{◌<◌, length, map, set, sym, ap, ◌∙◌, subst, arith}
use Rattle.std.specs.Prelude.{is_some, slice_index}
use Rattle.std.proofs.lemmas.List.{length-set}
use Rattle.interval.specs.Ranges.{range_of}
use Rattle.object_sets.specs.ObjectSets.{AreBelow, IsIncreasing, is_among}
use Rattle.validate.specs.Plans.{IsFreeIn}
use Rattle.validate.proofs.Frees.{none_found, one_slot_more, slot_found, views_moved}
use Rattle.ver_table.proofs.Walks.{before_all, first_among, rest_among}
use Rattle.validate.proofs.slots.free_slots.Goals as goal

pub free_slot-free-requires : goal.free_slot-free-requires
free_slot-free-requires c = (subst (AreBelow (length c.args.versions.now)) c.in-Some.ensures.taken c.loop-o.invariant.below).0

pub returns-in_default-free : goal.returns-in_default-free
returns-in_default-free c = λ views h.
    let moved = views_moved views _ c.intervals.result.now _ c.pins.result.now h c.intervals.ensures c.pins.ensures in
    let rising = subst IsIncreasing c.in-Some.ensures.taken c.in-Some.ensures.increasing in
    record {
      among = c.loop-o.invariant.written c.in-Some.o.0 (first_among c.in-Some.o.0 c.take_least.new.self c.loop-o.left c.in-Some.ensures.taken);
      full = none_found c.args.versions.now views (map range_of c.intervals.result.now) c.pins.result.now c.in-Some.o.0 c.in_default-free.ensures.laid c.in_default-free.ensures.ended moved c.in_default-free.ensures.free;
      earlier = λ j l e. ap is_some (c.loop-o.invariant.free views h j e (ap (is_among j) c.in-Some.ensures.taken ∙ before_all j c.in-Some.o.0 c.take_least.new.self l rising)).free;
    }

pub loop-o-preserved : goal.loop-o-preserved
loop-o-preserved c =
    let taken = c.in-Some.ensures.taken in
    let slots = ap (λ k. set c.loop-o.slots k c.in-Some-free.slot) c.from.ensures in
    let low = (subst (AreBelow 128) taken c.in-Some.ensures.below).0 in
    let inside : c.in-Some.o.0 < length c.loop-o.slots = omega (arith, c.loop-o.invariant.long, low) in
    record {
      long = ap length slots ∙ length-set c.loop-o.slots c.in-Some.o.0 c.in-Some-free.slot ∙ c.loop-o.invariant.long;
      below = (subst (AreBelow (length c.args.versions.now)) taken c.loop-o.invariant.below).1;
      written = λ j e. c.loop-o.invariant.written j (rest_among j c.in-Some.o.0 c.take_least.new.self c.loop-o.left taken e);
      free = λ views h j e gone.
          let moved = views_moved views _ c.intervals.result.now _ c.pins.result.now h c.intervals.ensures c.pins.ensures in
          let here = slot_found c.args.versions.now views (map range_of c.intervals.result.now) c.pins.result.now c.in-Some.o.0 c.in-Some-free.slot c.in-Some-free.ensures.laid c.in-Some-free.ensures.ended moved c.in-Some-free.ensures.free in
          let more = one_slot_more c.args.versions.now views c.take_least.new.self c.loop-o.left c.loop-o.slots c.in-Some.o.0 c.in-Some-free.slot j inside taken (c.loop-o.invariant.free views h j e) here gone in
          subst (λ xs. IsFreeIn c.args.versions.now views j (slice_index xs j)) (sym slots) more;
    }

pub returns : goal.returns
returns c = λ views h o e. c.loop-o.invariant.free views h o e (ap (is_among o) c.in_default.ensures.taken.0)

use Rattle.std.proofs.Common.{◌≡◌, ◌<◌, ℕ, get_or, ap, ap₂, sym, ◌∙◌, arith}
use Rattle.std.specs.Prelude.{find}
use Rattle.kernel_model.specs.Room.{is_below}
use Rattle.interval.specs.Ranges.{number_of}
use Rattle.ver_table.specs.Chains.{Chain, in_slot, newest_before}
use Rattle.ver_table.specs.Slots.{begin_at}
use Rattle.ver_table.proofs.Orders.{slots_below, some_of}
use Rattle.ver_table.proofs.Shown.{chosen_at, shown}
use Rattle.ver_table.proofs.chain.Chain.choose.Goals as goal

pub first_before-requires : goal.first_before-requires
first_before-requires c = λ i l.
    let same = c.as_slice.ensures.value in
    let low : get_or c.as_slice.result.now i 0 < c.self.inside.slots = rw same (slots_below c.self.inside.slots c.self.inside.order.items c.self.invariant.are i (rw same at l)) in
    omega (arith, low, c.self.invariant.few)

pub unreachable-requires : goal.unreachable-requires
unreachable-requires c =
    let found = some_of (newest_before (number_of c.args.hi) c.args.self.now.stored) c.requires in
    let at = chosen_at c.self.inside.begins c.self.inside.ends (number_of c.args.hi) c.self.inside.slots c.self.inside.order.items c.self.invariant.are found.0 (ap (λ (x : Chain). newest_before (number_of c.args.hi) x.stored) c.self.view_is ∙ found.1) in
    let first = c.first_before.ensures ∙ ap (find (λ k. is_below (begin_at c.self.inside.begins k) (number_of c.args.hi))) c.as_slice.ensures.value ∙ at.found in
    c.in_default.not-Some found.0.slot first

pub bounds-self-inside-from : goal.bounds-self-inside-from
bounds-self-inside-from c =
    let found = some_of (newest_before (number_of c.args.hi) c.args.self.now.stored) c.requires in
    let at = chosen_at c.self.inside.begins c.self.inside.ends (number_of c.args.hi) c.self.inside.slots c.self.inside.order.items c.self.invariant.are found.0 (ap (λ (x : Chain). newest_before (number_of c.args.hi) x.stored) c.self.view_is ∙ found.1) in
    let first = c.first_before.ensures ∙ ap (find (λ k. is_below (begin_at c.self.inside.begins k) (number_of c.args.hi))) c.as_slice.ensures.value ∙ at.found in
    let is : c.in-Some.slot ≡ found.0.slot = cc (first, c.in-Some.is) in
    omega (arith, at.inside, c.self.invariant.few, c.from.ensures, is)

pub returns : goal.returns
returns c =
    record {
      chosen = λ v e.
          let at = chosen_at c.self.inside.begins c.self.inside.ends (number_of c.args.hi) c.self.inside.slots c.self.inside.order.items c.self.invariant.are v (ap (λ (x : Chain). newest_before (number_of c.args.hi) x.stored) c.self.view_is ∙ e) in
          let first = c.first_before.ensures ∙ ap (find (λ k. is_below (begin_at c.self.inside.begins k) (number_of c.args.hi))) c.as_slice.ensures.value ∙ at.found in
          let is : c.in-Some.slot ≡ v.slot = cc (first, c.in-Some.is) in
          (is, ap (begin_at c.self.inside.begins) (c.from.ensures ∙ is) ∙ at.begin_is, ap₂ (λ (k : ℕ) (x : Chain). in_slot k x.stored) is (sym c.self.view_is) ∙ at.there);
      inside =
          let found = some_of (newest_before (number_of c.args.hi) c.args.self.now.stored) c.requires in
          let at = chosen_at c.self.inside.begins c.self.inside.ends (number_of c.args.hi) c.self.inside.slots c.self.inside.order.items c.self.invariant.are found.0 (ap (λ (x : Chain). newest_before (number_of c.args.hi) x.stored) c.self.view_is ∙ found.1) in
          let first = c.first_before.ensures ∙ ap (find (λ k. is_below (begin_at c.self.inside.begins k) (number_of c.args.hi))) c.as_slice.ensures.value ∙ at.found in
          let is : c.in-Some.slot ≡ found.0.slot = cc (first, c.in-Some.is) in
          let slots : c.self.inside.slots ≡ c.args.self.now.slots = ap (λ (x : Chain). x.slots) c.self.view_is in
          omega (arith, at.inside, is, slots);
      laid = shown c.self.inside.slots c.self.inside.bound.0 c.self.inside.order.items c.self.inside.begins c.self.inside.ends c.args.self.now c.self.view_is c.self.invariant;
    }

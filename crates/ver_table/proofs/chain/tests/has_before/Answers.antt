use Rattle.std.proofs.Common.{◌<◌, ℕ, Option, get_or, ap, sym, ◌∙◌, arith}
use Rattle.std.specs.Prelude.{find, is_some}
use Rattle.kernel_model.specs.Room.{is_below}
use Rattle.interval.specs.Ranges.{number_of}
use Rattle.ver_table.specs.Chains.{Chain, Place, newest_before}
use Rattle.ver_table.specs.Slots.{begin_at, stored_at}
use Rattle.ver_table.proofs.Orders.{find-map, is_some-map, slots_below}
use Rattle.ver_table.proofs.chain.tests.has_before.Goals as goal

pub first_before-requires : goal.first_before-requires
first_before-requires c = λ i l.
    let same = c.as_slice.ensures.value in
    let low : get_or c.as_slice.result.now i 0 < c.chain.inside.slots = rw same (slots_below c.chain.inside.slots c.chain.inside.order.items c.chain.invariant.are i (rw same at l)) in
    omega (arith, low, c.chain.invariant.few)

pub returns : goal.returns
returns c =
    let begins = c.chain.inside.begins in
    let order = c.chain.inside.order.items in
    let hi = number_of c.args.hi in
    let first = c.first_before.ensures ∙ ap (find (λ k. is_below (begin_at begins k) hi)) c.as_slice.ensures.value in
    let stored = stored_at begins c.chain.inside.ends in
    c.is_some.ensures ∙ ap (λ (o : Option ℕ). is_some o) first
    ∙ sym (is_some-map stored (find (λ k. is_below (begin_at begins k) hi) order)) ∙ ap (λ (o : Option Place). is_some o) (sym (find-map (λ (v : Place). is_below v.begin hi) stored order))
    ∙ ap (λ (x : Chain). is_some (newest_before hi x.stored)) c.chain.view_is

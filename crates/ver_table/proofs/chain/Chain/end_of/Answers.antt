use Rattle.std.proofs.Common.{ap, sym, ◌∙◌, arith}
use Rattle.ver_table.specs.Chains.{Chain, Place, in_slot}
use Rattle.ver_table.specs.Slots.{end_at}
use Rattle.ver_table.proofs.Orders.{in_slot_is, some_of}
use Rattle.ver_table.proofs.chain.Chain.end_of.Goals as goal

pub bounds-self-inside-from : goal.bounds-self-inside-from
bounds-self-inside-from c =
    let found = some_of (in_slot c.args.slot c.args.self.now.stored) c.requires in
    let at = in_slot_is c.self.inside.begins c.self.inside.ends c.self.inside.slots c.args.slot c.self.inside.order.items c.self.invariant.are found.0 (ap (λ (x : Chain). in_slot c.args.slot x.stored) c.self.view_is ∙ found.1) in
    omega (arith, at.1, c.self.invariant.few, c.from.ensures)

pub returns : goal.returns
returns c =
    λ v e.
    let at = in_slot_is c.self.inside.begins c.self.inside.ends c.self.inside.slots c.args.slot c.self.inside.order.items c.self.invariant.are v (ap (λ (x : Chain). in_slot c.args.slot x.stored) c.self.view_is ∙ e) in
    ap (end_at c.self.inside.ends) c.from.ensures ∙ sym (ap (λ (u : Place). u.end) at.0)

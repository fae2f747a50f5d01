use Rattle.std.proofs.Common.{ℕ, List, Option, eqb, ap, sym, ◌∙◌}
use Rattle.std.specs.Prelude.{find, is_some}
use Rattle.std.specs.List.{list_any}
use Rattle.ver_table.specs.Chains.{Chain, Place, in_slot}
use Rattle.ver_table.specs.Slots.{stored_at}
use Rattle.ver_table.proofs.Orders.{any-find, find-map, is_some-map}
use Rattle.ver_table.proofs.chain.tests.holds.Goals as goal

pub returns : goal.returns
returns c =
    let slot = c.args.slot in
    let order = c.chain.inside.order.items in
    let stored = stored_at c.chain.inside.begins c.chain.inside.ends in
    c.contains.ensures.value ∙ ap (λ (ks : List ℕ). list_any (λ j. eqb j slot) ks) c.deref.ensures.0 ∙ any-find (λ j. eqb j slot) order
    ∙ sym (is_some-map stored (find (λ j. eqb j slot) order)) ∙ ap (λ (o : Option Place). is_some o) (sym (find-map (λ (v : Place). eqb v.slot slot) stored order))
    ∙ ap (λ (x : Chain). is_some (in_slot slot x.stored)) c.chain.view_is

use Rattle.std.proofs.Common.{◌≡◌, ℕ, [], length, refl, sym, ap, ◌∙◌, subst}
use Rattle.object_sets.specs.ObjectSets.{AreBelow}
use Rattle.interval.specs.Ranges.{raised_to, range_of}
use Rattle.table_machine.specs.Tables.{Chain, chain_at}
use Rattle.ver_table.specs.Tabled.{all_tabled}
use Rattle.ver_table.proofs.ChainsTabled.{chain_is}
use Rattle.validate.proofs.Raises.{raised_is, raised_over}
use Rattle.validate.proofs.slots.raised.Goals as goal

pub loop-o-init : goal.loop-o-init
loop-o-init c = record { below = c.requires; same = refl }

pub raise_behind-requires : goal.raise_behind-requires
raise_behind-requires c = (subst (AreBelow (length c.args.versions.now)) c.in-Some.ensures.taken c.loop-o.invariant.below).0

pub loop-o-preserved : goal.loop-o-preserved
loop-o-preserved c =
    let bounds = λ (o : ℕ). (chain_at (all_tabled c.args.versions.now) o).bound in
    let before = range_of c.loop-o.interval in
    let bound = sym (ap (λ (x : Chain). x.bound) (chain_is c.args.versions.now c.in-Some.o.0)) in
    record {
      below = (subst (AreBelow (length c.args.versions.now)) c.in-Some.ensures.taken c.loop-o.invariant.below).1;
      same = ap (raised_over bounds c.take_least.new.self) (c.raise_behind.ensures ∙ ap (λ p. raised_to p before) bound) ∙ sym (ap (λ os. raised_over bounds os before) c.in-Some.ensures.taken) ∙ c.loop-o.invariant.same;
    }

pub returns : goal.returns
returns c =
    λ ws e.
    let bounds = λ (o : ℕ). (chain_at (all_tabled c.args.versions.now) o).bound in
    let none : c.loop-o.left ≡ [] = c.in_default.ensures.taken.0 in
    sym (ap (λ os. raised_over bounds os (range_of c.loop-o.interval)) none)
    ∙ c.loop-o.invariant.same
    ∙ ap (λ os. raised_over bounds os (range_of c.args.reads)) (sym e)
    ∙ raised_is bounds ws (range_of c.args.reads)

use Rattle.std.proofs.Common.{◌<◌, ap, ◌∙◌, arith, length, set, sym, subst}
use Rattle.std.specs.Prelude.{slice_index}
use Rattle.ver_table.specs.Chains.{chain_at}
use Rattle.committed_state.specs.Joining.{touched_by}
use Rattle.committed_state.proofs.Touching.{AreTouchedButFor, one_touched}
use Rattle.committed_state.proofs.joining.Joining.touch_all.Goals as goal

pub loop-o-preserved-then-o-count : goal.loop-o-preserved-then-o-count
loop-o-preserved-then-o-count c =
    let o = c.in-Some.o.0 in
    let inside : o < length c.loop-o.versions = omega (arith, c.loop-o.invariant.number, c.requires.number, c.if-o-count.true) in
    let now = one_touched c.args.self.now c.args.slots.now c.take_least.new.self c.loop-o.left c.args.count c.args.versions.now c.loop-o.versions o c.in-Some.ensures.taken c.in-Some.ensures.increasing c.if-o-count.true inside c.loop-o.invariant in
    let touch = c.touch.ensures ∙ ap (λ k. set c.loop-o.versions o (touched_by c.args.self.now o (slice_index c.args.slots.now k) (chain_at c.loop-o.versions o))) c.from.ensures in
    subst (AreTouchedButFor c.take_least.new.self c.args.self.now c.args.slots.now c.args.count c.args.versions.now) (sym touch) now

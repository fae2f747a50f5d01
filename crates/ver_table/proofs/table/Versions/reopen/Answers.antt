use Rattle.std.proofs.Common.{◌≡◌, ◌<◌, List, [], length, map, ap, sym, ◌∙◌, subst, arith}
use Rattle.ver_table.specs.Chains.{AreNamed, AreOpened, Chain, chain_at, one_version}
use Rattle.std.specs.Prelude.{slice_index}
use Rattle.ver_table.proofs.Reopens.{all_reopened, inside_is, named_below, none_reopened, one_reopened}
use Rattle.ver_table.proofs.table.Versions.reopen.Goals as goal

pub loop-o-init : goal.loop-o-init
loop-o-init c = none_reopened c.args.slots.now c.args.clock.0 c.self.inside.chains.items

pub reopen-requires : goal.reopen-requires
reopen-requires c =
    let old = c.self.inside.chains.items in
    let new = c.loop-o.self-inside.chains.items in
    let count = ap length c.self.view_is in
    let inside : c.loop-o.o < length new = omega (arith, c.loop-o.invariant.number, c.loop-o-test.true, c.len-o-end.ensures, count) in
    let is : c.index_mut.result.now ≡ chain_at new c.loop-o.o = c.index_mut.ensures.value ∙ inside_is new c.loop-o.o c.index_mut.result.now (record { slots = 0; bound = 0; stored = [] }) inside in
    let named = subst (λ (chains : List Chain). AreNamed (map (λ (d : Chain). d.slots) chains) c.args.slots.now) (sym c.self.view_is) c.requires in
    let low = named_below c.args.slots.now c.args.clock.0 old new c.loop-o.o c.loop-o.invariant named inside in
    let same = ap (λ (d : Chain). d.slots) is in
    omega (arith, low, same)

pub loop-o-preserved : goal.loop-o-preserved
loop-o-preserved c =
    let new = c.loop-o.self-inside.chains.items in
    let count = ap length c.self.view_is in
    let inside : c.loop-o.o < length new = omega (arith, c.loop-o.invariant.number, c.loop-o-test.true, c.len-o-end.ensures, count) in
    let is : c.index_mut.result.now ≡ chain_at new c.loop-o.o = c.index_mut.ensures.value ∙ inside_is new c.loop-o.o c.index_mut.result.now (record { slots = 0; bound = 0; stored = [] }) inside in
    one_reopened c.args.slots.now c.args.clock.0 c.self.inside.chains.items new c.loop-o.o c.reopen.new.self c.loop-o.invariant inside
    (c.reopen.ensures ∙ ap (λ (d : Chain). one_version d.slots (slice_index c.args.slots.now c.loop-o.o) c.args.clock.0) is)

pub returns : goal.returns
returns c =
    let count = ap length c.self.view_is in
    subst (λ (chains : List Chain). AreOpened (map (λ (d : Chain). d.slots) chains) c.args.slots.now c.args.clock.0 c.loop-o.self-inside.chains.items) c.self.view_is
    (all_reopened c.args.slots.now c.args.clock.0 c.self.inside.chains.items c.loop-o.self-inside.chains.items c.loop-o.o c.loop-o.invariant (omega (arith, c.loop-o-test.false, c.len-o-end.ensures, count)))

use Rattle.std.proofs.Common.{◌≡◌, ◌<◌, ℕ, List, ◌∷◌, Some, None, map, get_or, set, length, ap, sym, ◌∙◌, subst, lit<, arith}
use Rattle.ver_table.specs.Chains.{Chain, holds_newest, installed}
use Rattle.ver_table.specs.Slots.{AreEnded, IsKept, stored_at}
use Rattle.ver_table.proofs.Ended.{ended_installed}
use Rattle.ver_table.proofs.Installs.{others-few}
use Rattle.ver_table.proofs.Shown.{kept_front, newest_slot, shows_installed}
use Rattle.ver_table.proofs.chain.Chain.install.Goals as goal

pub insert-requires : goal.insert-requires
insert-requires c =
    let slots : c.self.inside.slots ≡ c.args.self.now.slots = ap (λ (x : Chain). x.slots) c.self.view_is in
    let few = others-few c.self.inside.slots c.args.slot c.self.inside.order.items (omega (arith, slots, c.requires.inside)) c.self.invariant.few c.self.invariant.are in
    let long = ap length c.leave_out.ensures in
    (lit< tt, (omega arith, omega (arith, few, long)))

pub invariant_of-self : goal.invariant_of-self
invariant_of-self c =
    let slot = c.args.slot in
    let p = c.args.p in
    let begins = c.self.inside.begins in
    let ends = c.self.inside.ends in
    let order = c.self.inside.order.items in
    let slots : c.self.inside.slots ≡ c.args.self.now.slots = ap (λ (x : Chain). x.slots) c.self.view_is in
    let inside : slot < c.self.inside.slots = omega (arith, slots, c.requires.inside) in
    let lb : length begins ≡ 8 = omega (arith, c.self.ranges) in
    let le : length ends ≡ 8 = omega (arith, c.self.ranges) in
    let made = λ (a b d : ℕ) (ks : List ℕ). let x : Chain = record { slots = c.self.inside.slots; bound = p.0; stored = map (stored_at (set begins a p) (set (set ends b (Some p)) d None)) ks } in x in
    let newest = c.from.ensures ∙ ap (λ (ks : List ℕ). get_or ks 0 0) c.deref.ensures.0 in
    let older = sym (newest_slot begins ends order slot c.self.invariant.some) ∙ ap (λ (x : Chain). holds_newest slot x.stored) c.self.view_is ∙ c.requires.older in
    let items = c.insert.ensures.items ∙ ap (λ (ks : List ℕ). slot ∷ ks) c.leave_out.ensures in
    let after =
    ap (λ (a : ℕ). made a c.from.result c.from-3.result c.insert.new.self.items) c.from-2.ensures
    ∙ ap (λ (b : ℕ). made slot b c.from-3.result c.insert.new.self.items) newest
    ∙ ap (λ (d : ℕ). made slot (get_or order 0 0) d c.insert.new.self.items) c.from-3.ensures
    ∙ ap (λ (ks : List ℕ). made slot (get_or order 0 0) slot ks) items
    ∙ shows_installed c.self.inside.slots c.self.inside.bound.0 order begins ends slot p c.self.invariant inside lb le older in
    let old : Chain = record { slots = c.self.inside.slots; bound = c.self.inside.bound.0; stored = map (stored_at begins ends) order } in
    let ended = subst (λ (x : Chain). AreEnded x.stored) (sym after) (ended_installed slot p.0 old c.self.invariant.ended) in
    let stored = (made c.from-2.result c.from.result c.from-3.result c.insert.new.self.items).stored in
    subst (λ (ks : List ℕ). IsKept c.self.inside.slots ks stored) (sym items) (kept_front c.self.inside.slots slot order (map (stored_at begins ends) order) stored c.self.invariant inside ended)

pub returns : goal.returns
returns c =
    let slot = c.args.slot in
    let p = c.args.p in
    let begins = c.self.inside.begins in
    let ends = c.self.inside.ends in
    let order = c.self.inside.order.items in
    let slots : c.self.inside.slots ≡ c.args.self.now.slots = ap (λ (x : Chain). x.slots) c.self.view_is in
    let lb : length begins ≡ 8 = omega (arith, c.self.ranges) in
    let le : length ends ≡ 8 = omega (arith, c.self.ranges) in
    let made = λ (a b d : ℕ) (ks : List ℕ). let x : Chain = record { slots = c.self.inside.slots; bound = p.0; stored = map (stored_at (set begins a p) (set (set ends b (Some p)) d None)) ks } in x in
    let newest = c.from.ensures ∙ ap (λ (ks : List ℕ). get_or ks 0 0) c.deref.ensures.0 in
    let older = sym (newest_slot begins ends order slot c.self.invariant.some) ∙ ap (λ (x : Chain). holds_newest slot x.stored) c.self.view_is ∙ c.requires.older in
    ap (λ (a : ℕ). made a c.from.result c.from-3.result c.insert.new.self.items) c.from-2.ensures
    ∙ ap (λ (b : ℕ). made slot b c.from-3.result c.insert.new.self.items) newest
    ∙ ap (λ (d : ℕ). made slot (get_or order 0 0) d c.insert.new.self.items) c.from-3.ensures
    ∙ ap (λ (ks : List ℕ). made slot (get_or order 0 0) slot ks) (c.insert.ensures.items ∙ ap (λ (ks : List ℕ). slot ∷ ks) c.leave_out.ensures)
    ∙ shows_installed c.self.inside.slots c.self.inside.bound.0 order begins ends slot p c.self.invariant (omega (arith, slots, c.requires.inside)) lb le older
    ∙ ap (installed slot p.0) c.self.view_is

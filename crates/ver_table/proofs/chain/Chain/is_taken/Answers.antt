use Rattle.std.proofs.Common.{ℕ, Bool, eqb, ◌&&◌, List, Option, get_or, map, ap, ap₂, sym, ◌∙◌}
use Rattle.std.specs.List.{list_any}
use Rattle.interval.specs.Ranges.{range_of}
use Rattle.ver_table.specs.Chains.{Chain}
use Rattle.ver_table.specs.Places.{is_needed, is_taken}
use Rattle.ver_table.specs.Slots.{begin_at, end_at, stored_at}
use Rattle.ver_table.proofs.Shown.{taken_at}
use Rattle.ver_table.proofs.chain.Chain.is_taken.Goals as goal

pub returns-then-contains : goal.returns-then-contains
returns-then-contains c =
    let needed = is_needed c.args.o.0 (map range_of c.args.others.now) c.args.pins.now in
    let begins = c.self.inside.begins in
    let ends = c.self.inside.ends in
    let among = sym (c.contains.ensures.value ∙ ap (λ (ks : List ℕ). list_any (λ j. eqb j c.args.slot) ks) c.deref-else-newest-slot.ensures.0) in
    let at = taken_at needed begins ends c.self.inside.order.items c.args.slot c.contains.result c.self.invariant.some (λ g. c.if-newest-slot.false (ap (λ (ks : List ℕ). get_or ks 0 0) c.deref.ensures.0 ∙ g)) among in
    c.is_needed.ensures
    ∙ ap₂ (λ (b : ℕ) (e : Option ℕ). needed (record { slot = c.args.slot; begin = b; end = e })) (ap (begin_at begins) c.from.ensures) (ap (end_at ends) c.from-then-contains.ensures)
    ∙ ap (λ (b : Bool). b && needed (stored_at begins ends c.args.slot)) (sym c.if-contains.true) ∙ sym at ∙ ap (λ (x : Chain). is_taken needed x.stored c.args.slot) c.self.view_is

pub returns-else-contains : goal.returns-else-contains
returns-else-contains c =
    let needed = is_needed c.args.o.0 (map range_of c.args.others.now) c.args.pins.now in
    let begins = c.self.inside.begins in
    let ends = c.self.inside.ends in
    let among = sym (c.contains.ensures.value ∙ ap (λ (ks : List ℕ). list_any (λ j. eqb j c.args.slot) ks) c.deref-else-newest-slot.ensures.0) in
    let at = taken_at needed begins ends c.self.inside.order.items c.args.slot c.contains.result c.self.invariant.some (λ g. c.if-newest-slot.false (ap (λ (ks : List ℕ). get_or ks 0 0) c.deref.ensures.0 ∙ g)) among in
    c.if-contains.false ∙ ap (λ (b : Bool). b && needed (stored_at begins ends c.args.slot)) (sym c.if-contains.false) ∙ sym at ∙ ap (λ (x : Chain). is_taken needed x.stored c.args.slot) c.self.view_is

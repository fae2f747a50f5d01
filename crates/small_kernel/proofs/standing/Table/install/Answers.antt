use Rattle.std.proofs.Common.{◌<◌, ◌∷◌, [], List, set, length, refl, sym, subst, arith}
use Rattle.std.specs.List.{AllByRecursion}
use Rattle.interval.specs.declared.version.Version.{Version}
use Rattle.ver_table.specs.Chains.{Chain, chain_at, installed}
use Rattle.object_sets.proofs.ForCallers.{all_append}
use Rattle.small_kernel.proofs.Stands.{Stands, newest_stands, others_stand}
use Rattle.small_kernel.proofs.standing.Table.install.Goals as goal

pub invariant_of-self : goal.invariant_of-self
invariant_of-self c =
    let chains = c.self.inside.versions in
    let o = c.args.o in
    let l : o < length chains = omega (arith, c.objects.ensures.exact, c.if-o-objects.false) in
    let new = installed c.args.slot c.args.p.0 (chain_at chains o) in
    subst (λ (cs : List Chain). AllByRecursion (Stands cs) c.replace.new.stands.items) (sym c.install.ensures)
    (subst (λ (vs : List Version). AllByRecursion (Stands (set chains o new)) vs) (sym c.in_err-replace.ensures.left)
    (others_stand chains o c.args.slot c.args.p.0 c.self.inside.stands.items l c.self.invariant))

pub invariant_of-self-2 : goal.invariant_of-self-2
invariant_of-self-2 c =
    let chains = c.self.inside.versions in
    let o = c.args.o in
    let l : o < length chains = omega (arith, c.objects.ensures.exact, c.if-o-objects.false) in
    let new = installed c.args.slot c.args.p.0 (chain_at chains o) in
    let v : Version = record { object = record { 0 = o }; slot = c.args.slot; begin = c.args.p } in
    subst (λ (cs : List Chain). AllByRecursion (Stands cs) c.replace.new.stands.items) (sym c.install.ensures)
    (subst (λ (vs : List Version). AllByRecursion (Stands (set chains o new)) vs) (sym c.in_ok-replace.ensures.put)
    (all_append (Stands (set chains o new)) _ (v ∷ []) (others_stand chains o c.args.slot c.args.p.0 c.self.inside.stands.items l c.self.invariant)
    (newest_stands chains o c.args.slot c.args.p.0 v l refl refl refl, tt)))

use Rattle.std.proofs.Common.{◌<◌, List, length, sym, subst, arith}
use Rattle.std.specs.List.{AllByRecursion}
use Rattle.ver_table.specs.Chains.{Chain, chain_at, noted}
use Rattle.small_kernel.proofs.Stands.{Stands, all_after}
use Rattle.small_kernel.proofs.standing.Table.note.Goals as goal

pub invariant_of-self : goal.invariant_of-self
invariant_of-self c =
    let chains = c.self.inside.versions in
    let o = c.args.o in
    let l : o < length chains = omega (arith, c.objects.ensures.exact, c.if-o-objects.true) in
    let stands = c.self.inside.stands.items in
    subst (λ (cs : List Chain). AllByRecursion (Stands cs) stands) (sym c.note.ensures)
    (all_after chains o (noted c.args.p.0 (chain_at chains o)) stands l (λ v e h. h) c.self.invariant)

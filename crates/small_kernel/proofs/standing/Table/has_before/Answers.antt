use Rattle.std.proofs.Common.{◌==◌, ◌&&◌, List, ap, sym, ◌∙◌, subst, IsSome}
use Rattle.std.specs.List.{list_any}
use Rattle.interval.specs.Ranges.{number_of}
use Rattle.interval.specs.declared.version.Version.{Version}
use Rattle.kernel_model.specs.Room.{is_below}
use Rattle.ver_table.specs.Chains.{Chain, chain_at, newest_before}
use Rattle.small_kernel.proofs.Stands.{before_is}
use Rattle.small_kernel.proofs.standing.Table.has_before.Goals as goal

pub returns : goal.returns
returns c t =
    let o = c.args.o in
    let hi = number_of c.args.hi in
    let told = sym (ap (λ (vs : List Version). list_any (λ (v : Version). v.object.0 == o && is_below v.begin.0 hi) vs) c.as_slice.ensures.value) in
    let stands = c.self.invariant in
    subst (λ (cs : List Chain). IsSome (newest_before hi (chain_at cs o).stored)) c.self.view_is
    (before_is c.self.inside.versions o hi c.self.inside.stands.items stands (told ∙ sym c.any_before.ensures ∙ t))

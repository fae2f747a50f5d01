use Rattle.std.proofs.Common.{ap, List, ◌∙◌}
use Rattle.kernel_model.specs.Chain.{floored}
use Rattle.kernel_model.proofs.ForCallers.{chosen_from_chain}
use Rattle.ver_table.specs.Chains.{Place, newest_before}
use Rattle.ver_table.specs.StandsFor.{versions_of}
use Rattle.ver_table.proofs.HeldLaws.{held_found, stored_found}
use Rattle.ver_table.proofs.laws.chosen_version_is_held.Goals as goal

pub returns : goal.returns
returns g c = λ base floor o k history cores i x held v at ne l st e.
    let found = held_found i.hi held (floored floor v) (chosen_from_chain base floor o history cores k i at ne l (versions_of held) st.chain v e) in
    (found.0, record { found = found.1; stored = ap (λ (vs : List Place). newest_before i.hi vs) st.stored ∙ stored_found i.hi held found.0 found.1; version = found.2 })

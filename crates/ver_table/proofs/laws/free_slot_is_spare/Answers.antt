use Rattle.std.proofs.Common.{ap, List, sym, ◌∙◌}
use Rattle.ver_table.specs.Chains.{Place, holds_newest}
use Rattle.ver_table.specs.Places.{is_needed, is_taken}
use Rattle.ver_table.proofs.HeldLaws.{needs_of, spare_of_free}
use Rattle.ver_table.proofs.laws.free_slot_is_spare.Goals as goal

pub returns : goal.returns
returns g c = λ base floor o k history needed x held cores others pins st are free.
    let needs = needs_of base history o cores others pins held are.intervals_are are.pins_are in
    let spare = spare_of_free base history o cores (is_needed o others pins) k held needs (ap (λ (vs : List Place). is_taken (is_needed o others pins) vs k) (sym st.stored) ∙ free.free) in
    (ap (holds_newest k) st.stored ∙ spare.0, spare.1)

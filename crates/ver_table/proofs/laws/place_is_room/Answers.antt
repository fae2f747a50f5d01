use Rattle.std.proofs.Common.{ℕ, ◌+◌, leb, List, ap, ap₂, ◌∙◌}
use Rattle.kernel_model.specs.Cores.{all_but}
use Rattle.kernel_model.proofs.ForCallers.{room_from_chain}
use Rattle.ver_table.specs.Chains.{Place}
use Rattle.ver_table.specs.Places.{all_older, count, is_needed}
use Rattle.ver_table.specs.StandsFor.{versions_of}
use Rattle.ver_table.proofs.HeldLaws.{count_older, needs_of}
use Rattle.ver_table.proofs.laws.place_is_room.Goals as goal

pub returns : goal.returns
returns g c = λ world s floor o n x held others pins h f st are same.
    let needs = needs_of world.base s.history o (all_but n s.cores) others pins held are.intervals_are are.pins_are in
    let counts =
    ap (λ (vs : List Place). count (is_needed o others pins) (all_older vs)) st.stored
    ∙ count_older world.base s.history o (all_but n s.cores) (is_needed o others pins) held needs
    ∙ room_from_chain world s h floor f o n (versions_of held) st.chain in
    ap₂ (λ (a b : ℕ). leb (1 + a + 1) b) counts same

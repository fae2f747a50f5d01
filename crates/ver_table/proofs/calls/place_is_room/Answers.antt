use Rattle.std.proofs.Common.{ℕ, ◌+◌, leb, List, ap, ap₂, ◌∙◌}
use Rattle.kernel_model.specs.Cores.{all_but}
use Rattle.kernel_model.specs.Live.{cores_of}
use Rattle.kernel_model.proofs.ForCallers.{live_counts}
use Rattle.ver_table.specs.Chains.{Place}
use Rattle.ver_table.specs.Places.{all_older, count, is_needed}
use Rattle.ver_table.specs.StandsFor.{versions_of}
use Rattle.ver_table.proofs.HeldLaws.{count_older, needs_of}
use Rattle.ver_table.proofs.calls.place_is_room.Goals as goal

pub returns : goal.returns
returns c = λ whole sizes base s o n x held others pins h st are same.
    let needs = needs_of base s.history o (cores_of (all_but n s.marks)) others pins held are.intervals_are are.pins_are in
    let counts =
    ap (λ (vs : List Place). count (is_needed o others pins) (all_older vs)) st.stored
    ∙ count_older base s.history o (cores_of (all_but n s.marks)) (is_needed o others pins) held needs
    ∙ live_counts whole base s h o n (versions_of held) st.chain in
    ap₂ (λ (a b : ℕ). leb (1 + a + 1) b) counts same

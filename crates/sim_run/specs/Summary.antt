-- What `make` puts: how many lines of each kind its run has. This project's own.
use Rattle.std.specs.Prelude.{ℕ, List, ◌++◌, codes}
use Rattle.nv_base.specs.Texts.{field}
use Rattle.simulation.specs.declared.tally.Tally.{Tally}

-- a line of a word and a number
abbrev pub number_line : List ℕ → ℕ → List ℕ
number_line word n = field word n ++ codes "\n"

-- the finishes of a run are serial, so all of them agree with the state that it leaves
unfoldable pub summary_text : ℕ → Tally → List ℕ
summary_text seed t =
    number_line (codes "made ") seed ++ number_line (codes "finishes ") t.finishes ++ number_line (codes "stale ") t.stales ++ number_line (codes "refused ") t.refusals ++
    number_line (codes "fails ") t.fails ++ number_line (codes "boots ") t.boots ++ number_line (codes "agreed ") t.finishes

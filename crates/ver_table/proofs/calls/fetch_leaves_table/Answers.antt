use Rattle.kernel_model.specs.Live.{cores_of, fetch_call}
use Rattle.kernel_model.specs.Room.{is_needed}
use Rattle.ver_table.proofs.StandLaws.{at_fetch, none_joins}
use Rattle.ver_table.proofs.calls.fetch_leaves_table.Goals as goal

pub returns : goal.returns
returns c = λ whole base s n m p device o x held h own st.
    let t = (fetch_call base s n m p s.loss device).0 in
    none_joins base.clock (is_needed base s.history o (cores_of s.marks)) (is_needed base t.history o (cores_of t.marks)) base o s.history t.history x held (at_fetch whole base s n m p device o h own) st

use Rattle.kernel_model.specs.Live.{cores_of, begin_call}
use Rattle.kernel_model.specs.Room.{is_needed}
use Rattle.ver_table.proofs.StandLaws.{at_begin, none_joins}
use Rattle.ver_table.proofs.calls.begin_leaves_table.Goals as goal

pub returns : goal.returns
returns c = λ whole base s n o x held h st.
    let t = (begin_call base s n s.loss).0 in
    none_joins base.clock (is_needed base s.history o (cores_of s.marks)) (is_needed base t.history o (cores_of t.marks)) base o s.history t.history x held (at_begin whole base s n o h) st

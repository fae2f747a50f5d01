use Rattle.std.proofs.Common.{◌+◌, suc, ◌≡◌, [], add-one}
use Rattle.report_text.proofs.ObjectLines.{line_at}
use Rattle.report_text.proofs.laws.object_has_line.Goals as goal

pub returns : goal.returns
returns c = λ set state o h l. let e : o + 1 ≡ suc o = add-one o in rw e (line_at (record { name = []; size = 0; slots = 0; first = [] }) set.objects state.objects o h.objects l)

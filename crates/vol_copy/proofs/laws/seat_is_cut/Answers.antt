use Rattle.vol_copy.proofs.Cutting.{seat_cut}
use Rattle.vol_copy.proofs.laws.seat_is_cut.Goals as goal

pub returns : goal.returns
returns c = seat_cut

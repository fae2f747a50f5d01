use Rattle.kernel_model.proofs.FloorLaws.{floor_needs}
use Rattle.kernel_model.proofs.tables.floor_changes_no_need.Goals as goal

pub returns : goal.returns
returns g c = λ base history floor o cores v f. floor_needs base history floor o cores v f

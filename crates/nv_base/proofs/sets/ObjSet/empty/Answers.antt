use Rattle.std.proofs.Common.{refl}
use Rattle.nv_base.specs.Bits.{objects_of}
use Rattle.nv_base.proofs.sets.ObjSet.empty.Goals as goal

pub returns : goal.returns
unfolding objects_of
returns c = refl

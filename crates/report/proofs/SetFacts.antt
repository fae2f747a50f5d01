-- How many words an object within the limits has.
use Rattle.std.proofs.Common.{◌≤◌}
use Rattle.nv_base.specs.declared.limits.TheConstants.{MAX_SIZE}
use Rattle.set_model.specs.Sets.{ObjPart}
use Rattle.set_model.specs.Limits.{IsObject}

pub size_fits : (o : ObjPart) → IsObject o → o.size ≤ MAX_SIZE
size_fits o h = h.size.1

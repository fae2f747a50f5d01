use Rattle.std.proofs.Common.{arith}
use Rattle.nv_base.specs.WordBack.{bits_word-objects_of}
use Rattle.std.proofs.lemmas.Grind.{common_steps}
use Rattle.nv_base.proofs.sets.ObjSetPartialEq.eq.Goals as goal

pub returns : goal.returns
returns c = grind (arith, common_steps, bits_word-objects_of)

use Rattle.std.proofs.Common.{rules, arith}
use Rattle.image_file.proofs.FromBytes.{image_is}
use Rattle.image_file.proofs.words.fill.Goals as goal

pub returns : goal.returns
returns c =
    image_is c.read_u32_into.new.dst c.args.bytes.now (search rules) (λ i. let f = c.type_inv.bytes i in omega (arith, f)) c.read_u32_into.ensures

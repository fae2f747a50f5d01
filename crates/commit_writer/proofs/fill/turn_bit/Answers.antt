use Rattle.std.proofs.Common.{◌^◌, ◌<◌, arith}
use Rattle.commit_writer.proofs.Turned.{has_room}
use Rattle.commit_writer.proofs.fill.turn_bit.Goals as goal

pub overflow_add-result : goal.overflow_add-result
overflow_add-result c = let r : c.args.word < 2 ^ 32 = omega arith in omega (arith, has_room c.args.word c.args.k c.requires r c.if-word-k-eq0.true, c.power-turned.ensures)

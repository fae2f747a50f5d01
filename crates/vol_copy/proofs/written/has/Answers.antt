use Rattle.std.proofs.Common.{sym}
use Rattle.vol_copy.proofs.WriteTables.{not_among}
use Rattle.vol_copy.proofs.written.has.Goals as goal

pub returns : goal.returns
returns c = sym (not_among c.args.o.0 c.args.objects c.are_below.ensures c.if-o-lt-MAX_OBJECTS.false)

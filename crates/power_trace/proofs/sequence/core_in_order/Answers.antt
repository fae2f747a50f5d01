use Rattle.std.proofs.Common.{◌%◌, length, ◌∙◌}
use Rattle.std.proofs.Math.Nat.{mod-lt}
use Rattle.std.proofs.lemmas.Option.{slice_get-get_or}
use Rattle.power_trace.proofs.ByNumber.{repeated-at}
use Rattle.power_trace.proofs.sequence.core_in_order.Goals as goal

pub returns : goal.returns
returns c = λ times h.
    repeated-at times c.args.order.now c.args.n c.requires h
    ∙ slice_get-get_or c.args.order.now (c.args.n % length c.args.order.now) 0 (mod-lt c.args.n c.requires)

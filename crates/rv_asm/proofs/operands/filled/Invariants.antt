use Rattle.std.proofs.Common.{◌≡◌, drop, option_map}
use Rattle.rv_asm.specs.Operands.{filled, pieces_left, pieces_of}
use Rattle.rv_asm.specs.Seen.{open_seen}
use Rattle.rv_asm.proofs.operands.filled.Given as goal

abbrev pub invariant-loop-operand : goal.invariant-loop-operand
invariant-loop-operand l =
    filled (drop l.operand-index l.operands) (pieces_left (option_map (λ t. t.now) l.rest)) (open_seen l.partial)
    ≡ filled l.operands (pieces_of l.text) (open_seen l.fn.partial)

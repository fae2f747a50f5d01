use Rattle.std.proofs.Common.{◌≡◌, ◌++◌, take, string_bytes, codes}
use Rattle.std.specs.List.{flat_map}
use Rattle.rv_isa.specs.Texts.{operand_text}
use Rattle.rv_isa.proofs.texts.push_row.Given as goal

abbrev pub invariant-loop-operand : goal.invariant-loop-operand
invariant-loop-operand l =
    string_bytes l.out ≡ string_bytes l.initial.out ++ flat_map (λ operand. codes ", " ++ operand_text l.i operand) (take l.operand-index l.others)

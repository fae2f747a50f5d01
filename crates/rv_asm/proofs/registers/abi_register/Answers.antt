use Rattle.std.proofs.Common.{◌≡◌, ◌<◌, true, false, [], get_or, length, nat_eq, sym, ap, below_more, arith}
use Rattle.std.specs.Cmp.Lexicographic.{pointwise}
use Rattle.rv_isa.specs.Names.{register_names}
use Rattle.rv_asm.specs.Registers.{numbered}
use Rattle.rv_asm.proofs.Searches.{first_at, first_nowhere}
use Rattle.rv_asm.proofs.registers.abi_register.Goals as goal

pub returns-then-eq : goal.returns-then-eq
returns-then-eq c =
    let here : pointwise nat_eq (get_or register_names c.loop-number.number []) c.args.word.now ≡ true = cc in
    let lt : c.loop-number.number < length register_names = omega arith in
    ap numbered (sym (first_at (λ name. pointwise nat_eq name c.args.word.now) register_names c.loop-number.number [] lt c.loop-number.invariant here))

pub loop-number-preserved : goal.loop-number-preserved
loop-number-preserved c =
    let here : pointwise nat_eq (get_or register_names c.loop-number.number []) c.args.word.now ≡ false = cc in
    below_more _ _ c.loop-number.invariant here

pub returns : goal.returns
returns c = ap numbered (sym (first_nowhere (λ name. pointwise nat_eq name c.args.word.now) register_names [] (λ k lt. c.loop-number.invariant k (omega arith))))

use Rattle.std.proofs.Common.{◌≡◌, ℕ, ◌<◌, false, [], get_or, nat_eq}
use Rattle.std.specs.Cmp.Lexicographic.{pointwise}
use Rattle.rv_isa.specs.Names.{register_names}
use Rattle.rv_asm.proofs.registers.abi_register.Given as goal

abbrev pub invariant-loop-number : goal.invariant-loop-number
invariant-loop-number l = (k : ℕ) → k < l.number → pointwise nat_eq (get_or register_names k []) l.word ≡ false

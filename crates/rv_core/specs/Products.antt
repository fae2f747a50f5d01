-- Products and quotients of words, worked out by hand, the edges among them (the RISC-V unprivileged ISA
-- manual, the chapter on extension M and its table of division by zero and overflow).
use Rattle.std.specs.Prelude.{ℕ, List, [], ◌∷◌, ◌≡◌, map}
use Rattle.rv_core.specs.Operations.{computed}
use Rattle.rv_isa.specs.declared.instruction.RegOp.{RegOp}
use Rattle.rv_isa.specs.declared.instruction.RegOp.TheVariants.{Mul, Mulh, Mulhsu, Mulhu, Div, Divu, Rem, Remu}

-- an operation, two words, and what it makes of them
pub record Row : Type 0 where
  pub op : RegOp
  pub a : ℕ
  pub b : ℕ
  pub value : ℕ

abbrev pub row : RegOp → ℕ → ℕ → ℕ → Row
row op a b value = record { op = op; a = a; b = b; value = value }

abbrev pub rows : List Row
rows =
    row Mul 7 6 42 ∷
    row Mul 0x80000000 2 0 ∷
    row Mul 0xFFFFFFFF 0xFFFFFFFF 1 ∷  -- -1 by -1
    row Mulh 0xFFFFFFFF 0xFFFFFFFF 0 ∷  -- -1 by -1
    row Mulh 0xFFFFFFFF 1 0xFFFFFFFF ∷  -- -1 by 1
    row Mulh 0x80000000 0x80000000 0x40000000 ∷
    row Mulh 0x80000000 0x7FFFFFFF 0xC0000000 ∷
    row Mulhsu 0xFFFFFFFF 0xFFFFFFFF 0xFFFFFFFF ∷  -- -1 by 2 ^ 32 - 1
    row Mulhsu 1 0xFFFFFFFF 0 ∷
    row Mulhsu 0x80000000 0xFFFFFFFF 0x80000000 ∷
    row Mulhu 0xFFFFFFFF 0xFFFFFFFF 0xFFFFFFFE ∷
    row Mulhu 0x80000000 2 1 ∷
    row Div 0xFFFFFFF9 2 0xFFFFFFFD ∷  -- -7 by 2 is -3
    row Div 7 0xFFFFFFFE 0xFFFFFFFD ∷  -- 7 by -2 is -3
    row Div 0xFFFFFFF9 0xFFFFFFFE 3 ∷  -- -7 by -2 is 3
    row Div 7 0 0xFFFFFFFF ∷
    row Div 0x80000000 0 0xFFFFFFFF ∷
    row Div 0x80000000 0xFFFFFFFF 0x80000000 ∷  -- -2 ^ 31 by -1
    row Divu 0xFFFFFFF9 2 0x7FFFFFFC ∷
    row Divu 7 0 0xFFFFFFFF ∷
    row Divu 0x80000000 0xFFFFFFFF 0 ∷
    row Rem 0xFFFFFFF9 2 0xFFFFFFFF ∷  -- -7 by 2 leaves -1
    row Rem 7 0xFFFFFFFE 1 ∷  -- 7 by -2 leaves 1
    row Rem 0xFFFFFFF9 0xFFFFFFFE 0xFFFFFFFF ∷  -- -7 by -2 leaves -1
    row Rem 7 0 7 ∷
    row Rem 0x80000000 0 0x80000000 ∷
    row Rem 0x80000000 0xFFFFFFFF 0 ∷  -- -2 ^ 31 by -1
    row Remu 0xFFFFFFF9 2 1 ∷
    row Remu 7 0 7 ∷
    row Remu 0x80000000 0xFFFFFFFF 0x80000000 ∷
    []

-- each row's value is what its operation makes of the two words
abbrev pub AreComputed : Type 0
AreComputed = map (λ r. computed r.op r.a r.b) rows ≡ map (λ r. r.value) rows

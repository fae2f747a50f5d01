-- Where an instruction's fields stand in its word (the RISC-V unprivileged ISA manual, section 2.2
-- "Base Instruction Formats" and section 2.3 "Immediate Encoding Variants").
use Rattle.std.specs.Prelude.{ℕ, ◌+◌, ◌*◌, ℤ}
use Rattle.rv_isa.specs.Fields.{bits, signed}
use Rattle.rv_isa.specs.declared.instruction.Reg.{Reg}

abbrev pub opcode : ℕ → ℕ
opcode word = bits 0 7 word

abbrev pub funct3 : ℕ → ℕ
funct3 word = bits 12 3 word

abbrev pub funct7 : ℕ → ℕ
funct7 word = bits 25 7 word

abbrev pub rd : ℕ → Reg
rd word = record { 0 = bits 7 5 word }

abbrev pub rs1 : ℕ → Reg
rs1 word = record { 0 = bits 15 5 word }

abbrev pub rs2 : ℕ → Reg
rs2 word = record { 0 = bits 20 5 word }

-- the amount of a shift by an immediate
abbrev pub shift_amount : ℕ → ℕ
shift_amount word = bits 20 5 word

-- the immediates of the formats U, I, S, B and J
abbrev pub u_immediate : ℕ → ℕ
u_immediate word = bits 12 20 word

abbrev pub i_immediate : ℕ → ℤ
i_immediate word = signed 12 (bits 20 12 word)

abbrev pub s_immediate : ℕ → ℤ
s_immediate word = signed 12 (bits 25 7 word * 32 + bits 7 5 word)

abbrev pub b_immediate : ℕ → ℤ
b_immediate word = signed 13 (bits 31 1 word * 4096 + bits 7 1 word * 2048 + bits 25 6 word * 32 + bits 8 4 word * 2)

abbrev pub j_immediate : ℕ → ℤ
j_immediate word = signed 21 (bits 31 1 word * 1048576 + bits 12 8 word * 4096 + bits 20 1 word * 2048 + bits 21 10 word * 2)

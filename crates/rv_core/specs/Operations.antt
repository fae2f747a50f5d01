-- What each operation computes (the RISC-V unprivileged ISA manual, sections 2.4 "Integer Computational
-- Instructions", 2.5 "Control Transfer Instructions" and 2.6 "Load and Store Instructions", and the chapter
-- on extension M for integer multiplication and division).
use Rattle.std.specs.Prelude.{ℕ, ◌+◌, ◌-◌, ◌*◌, ◌/◌, ◌%◌, ◌^◌, ◌==◌, ℤ, pos, negsuc, ◌*ℤ◌, int_lt, int_div, int_rem, bit_and, bit_or, bit_xor, not, Bool, List, nat_lt, slice_index, slice_set, if◌then◌else◌}
use Rattle.std.specs.Int.{cast_unsigned, cast_signed, w32, w64}
use Rattle.rv_core.specs.State.{MachineState}
use Rattle.rv_core.specs.Bytes.{word_at, put_word, half_at, put_half}
use Rattle.rv_isa.specs.Fields.{signed}
use Rattle.rv_isa.specs.declared.instruction.Reg.{Reg}
use Rattle.rv_isa.specs.declared.instruction.ImmOp.{ImmOp}
use Rattle.rv_isa.specs.declared.instruction.ImmOp.TheVariants.{Addi, Slti, Sltiu, Xori, Ori, Andi, Slli, Srli, Srai}
use Rattle.rv_isa.specs.declared.instruction.BranchOp.{BranchOp}
use Rattle.rv_isa.specs.declared.instruction.BranchOp.TheVariants.{Beq, Bne, Blt, Bge, Bltu, Bgeu}
use Rattle.rv_isa.specs.declared.instruction.LoadOp.{LoadOp}
use Rattle.rv_isa.specs.declared.instruction.LoadOp.TheVariants.{Lb, Lh, Lw, Lbu, Lhu}
use Rattle.rv_isa.specs.declared.instruction.StoreOp.{StoreOp}
use Rattle.rv_isa.specs.declared.instruction.StoreOp.TheVariants.{Sb, Sh, Sw}
use Rattle.rv_isa.specs.declared.instruction.RegOp.{RegOp}
use Rattle.rv_isa.specs.declared.instruction.RegOp.TheVariants.{Add, Sub, Sll, Slt, Sltu, Xor, Srl, Sra, Or, And, Mul, Mulh, Mulhsu, Mulhu, Div, Divu, Rem, Remu}

-- register 0 reads as zero, and a write to it is dropped
abbrev pub register : MachineState → ℕ → ℕ
register s r = if r == 0 then 0 else slice_index s.registers r

abbrev pub with_register : MachineState → ℕ → ℕ → MachineState
with_register s r value = if r == 0 then s else record s { registers = slice_set s.registers r value }

-- the sum of a register and an immediate, which wraps
abbrev pub sum_of : MachineState → Reg → ℤ → ℕ
sum_of s r imm = (register s r.0 + cast_unsigned w32 imm) % 2 ^ 32

-- the sum of an address and an offset, which wraps
abbrev pub place_of : ℕ → ℤ → ℕ
place_of pc offset = (pc + cast_unsigned w32 offset) % 2 ^ 32

-- a number shifted down, keeping its sign
abbrev pub shifted : ℤ → ℕ → ℤ
shifted (pos n) k = pos (n / 2 ^ k)
shifted (negsuc n) k = negsuc (n / 2 ^ k)

abbrev pub bit : Bool → ℕ
bit b = if b then 1 else 0

-- the upper of the two words of a product, in two's complement
abbrev pub upper_word : ℤ → ℕ
upper_word product = cast_unsigned w64 product / 2 ^ 32

-- Quotient and remainder of signed words: the quotient is rounded toward zero, and the remainder has the
-- dividend's sign. The one quotient that is no signed word is 2 ^ 31, of -2 ^ 31 by -1: it has the word of -2 ^ 31.
abbrev pub signed_quotient : ℕ → ℕ → ℕ
signed_quotient a b = cast_unsigned w32 (int_div (cast_signed w32 a) (cast_signed w32 b))

abbrev pub signed_remainder : ℕ → ℕ → ℕ
signed_remainder a b = cast_unsigned w32 (int_rem (cast_signed w32 a) (cast_signed w32 b))

-- what an operation makes of two registers; shifts take the low five bits of the second, and a division by
-- zero gives all ones and leaves the dividend
abbrev pub computed : RegOp → ℕ → ℕ → ℕ
computed Add a b = (a + b) % 2 ^ 32
computed Sub a b = (a + (2 ^ 32 - b)) % 2 ^ 32
computed Sll a b = (a * 2 ^ (b % 32)) % 2 ^ 32
computed Slt a b = bit (int_lt (cast_signed w32 a) (cast_signed w32 b))
computed Sltu a b = bit (nat_lt a b)
computed Xor a b = bit_xor a b
computed Srl a b = a / 2 ^ (b % 32)
computed Sra a b = cast_unsigned w32 (shifted (cast_signed w32 a) (b % 32))
computed Or a b = bit_or a b
computed And a b = bit_and a b
computed Mul a b = (a * b) % 2 ^ 32
computed Mulh a b = upper_word (cast_signed w32 a *ℤ cast_signed w32 b)
computed Mulhsu a b = upper_word (cast_signed w32 a *ℤ pos b)
computed Mulhu a b = upper_word (pos a *ℤ pos b)
computed Div a b = if b == 0 then 2 ^ 32 - 1 else signed_quotient a b
computed Divu a b = if b == 0 then 2 ^ 32 - 1 else a / b
computed Rem a b = if b == 0 then a else signed_remainder a b
computed Remu a b = if b == 0 then a else a % b

-- the operation that takes a register in place of the immediate
abbrev pub with_immediate : ImmOp → RegOp
with_immediate Addi = Add
with_immediate Slti = Slt
with_immediate Sltiu = Sltu
with_immediate Xori = Xor
with_immediate Ori = Or
with_immediate Andi = And
with_immediate Slli = Sll
with_immediate Srli = Srl
with_immediate Srai = Sra

-- whether a branch is taken at two registers
abbrev pub is_taken : BranchOp → ℕ → ℕ → Bool
is_taken Beq a b = a == b
is_taken Bne a b = not (a == b)
is_taken Blt a b = int_lt (cast_signed w32 a) (cast_signed w32 b)
is_taken Bge a b = not (int_lt (cast_signed w32 a) (cast_signed w32 b))
is_taken Bltu a b = nat_lt a b
is_taken Bgeu a b = not (nat_lt a b)

-- how many bytes a load or a store takes
abbrev pub load_size : LoadOp → ℕ
load_size Lb = 1
load_size Lh = 2
load_size Lw = 4
load_size Lbu = 1
load_size Lhu = 2

abbrev pub store_size : StoreOp → ℕ
store_size Sb = 1
store_size Sh = 2
store_size Sw = 4

-- what a load reads
abbrev pub read_at : LoadOp → List ℕ → ℕ → ℕ
read_at Lb memory at = cast_unsigned w32 (signed 8 (slice_index memory at))
read_at Lh memory at = cast_unsigned w32 (signed 16 (half_at memory at))
read_at Lw memory at = word_at memory at
read_at Lbu memory at = slice_index memory at
read_at Lhu memory at = half_at memory at

-- the memory with the low bytes of a register put at an address
abbrev pub put_at : StoreOp → List ℕ → ℕ → ℕ → List ℕ
put_at Sb memory at word = slice_set memory at (word % 2 ^ 8)
put_at Sh memory at word = put_half memory at (word % 2 ^ 16)
put_at Sw memory at word = put_word memory at word

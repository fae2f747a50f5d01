-- What an instruction with a case of its own for each operation means (this project's own).
use Rattle.rv_isa.specs.declared.instruction.Instr.{Instr}
use Rattle.rv_isa.specs.declared.instruction.Instr.TheVariants as table
use Rattle.rv_isa.specs.declared.instruction.BranchOp.TheVariants as branch
use Rattle.rv_isa.specs.declared.instruction.LoadOp.TheVariants as load
use Rattle.rv_isa.specs.declared.instruction.StoreOp.TheVariants as store
use Rattle.rv_isa.specs.declared.instruction.ImmOp.TheVariants as immediate
use Rattle.rv_isa.specs.declared.instruction.RegOp.TheVariants as operation
use Rattle.rv_core.specs.declared.quick.Quick.{Quick}
use Rattle.rv_core.specs.declared.quick.Quick.TheVariants as quick

-- the instruction of the table
abbrev pub meant : Quick → Instr
meant (quick.Lui d imm) = table.Lui d imm
meant (quick.Auipc d imm) = table.Auipc d imm
meant (quick.Jal d offset) = table.Jal d offset
meant (quick.Jalr d a imm) = table.Jalr d a imm
meant (quick.Beq a b offset) = table.Branch branch.Beq a b offset
meant (quick.Bne a b offset) = table.Branch branch.Bne a b offset
meant (quick.Blt a b offset) = table.Branch branch.Blt a b offset
meant (quick.Bge a b offset) = table.Branch branch.Bge a b offset
meant (quick.Bltu a b offset) = table.Branch branch.Bltu a b offset
meant (quick.Bgeu a b offset) = table.Branch branch.Bgeu a b offset
meant (quick.Lb d a imm) = table.Load load.Lb d a imm
meant (quick.Lh d a imm) = table.Load load.Lh d a imm
meant (quick.Lw d a imm) = table.Load load.Lw d a imm
meant (quick.Lbu d a imm) = table.Load load.Lbu d a imm
meant (quick.Lhu d a imm) = table.Load load.Lhu d a imm
meant (quick.Sb a b imm) = table.Store store.Sb a b imm
meant (quick.Sh a b imm) = table.Store store.Sh a b imm
meant (quick.Sw a b imm) = table.Store store.Sw a b imm
meant (quick.Addi d a imm) = table.OpImm immediate.Addi d a imm
meant (quick.Slti d a imm) = table.OpImm immediate.Slti d a imm
meant (quick.Sltiu d a imm) = table.OpImm immediate.Sltiu d a imm
meant (quick.Xori d a imm) = table.OpImm immediate.Xori d a imm
meant (quick.Ori d a imm) = table.OpImm immediate.Ori d a imm
meant (quick.Andi d a imm) = table.OpImm immediate.Andi d a imm
meant (quick.Slli d a imm) = table.OpImm immediate.Slli d a imm
meant (quick.Srli d a imm) = table.OpImm immediate.Srli d a imm
meant (quick.Srai d a imm) = table.OpImm immediate.Srai d a imm
meant (quick.Add d a b) = table.Op operation.Add d a b
meant (quick.Sub d a b) = table.Op operation.Sub d a b
meant (quick.Sll d a b) = table.Op operation.Sll d a b
meant (quick.Slt d a b) = table.Op operation.Slt d a b
meant (quick.Sltu d a b) = table.Op operation.Sltu d a b
meant (quick.Xor d a b) = table.Op operation.Xor d a b
meant (quick.Srl d a b) = table.Op operation.Srl d a b
meant (quick.Sra d a b) = table.Op operation.Sra d a b
meant (quick.Or d a b) = table.Op operation.Or d a b
meant (quick.And d a b) = table.Op operation.And d a b
meant (quick.Mul d a b) = table.Op operation.Mul d a b
meant (quick.Mulh d a b) = table.Op operation.Mulh d a b
meant (quick.Mulhsu d a b) = table.Op operation.Mulhsu d a b
meant (quick.Mulhu d a b) = table.Op operation.Mulhu d a b
meant (quick.Div d a b) = table.Op operation.Div d a b
meant (quick.Divu d a b) = table.Op operation.Divu d a b
meant (quick.Rem d a b) = table.Op operation.Rem d a b
meant (quick.Remu d a b) = table.Op operation.Remu d a b
meant (quick.Fence d a bits) = table.Fence d a bits
meant quick.Ecall = table.Ecall
meant quick.Ebreak = table.Ebreak

-- A step that does not trap counts one instruction, and had fuel for it. The registers name a call.
use Rattle.std.proofs.Common.{◌≡◌, ℕ, ◌+◌, ◌%◌, ◌<◌, Bool, true, false, length, Option, Some, None, refl, subst}
use Rattle.std.specs.Prelude.{◌==◌, nat_le, slice_set, if◌then◌else◌}
use Rattle.std.proofs.lemmas.Bool.{leb-false}
use Rattle.nv_base.specs.declared.causes.TrapCause.TheVariants as cause
use Rattle.rv_core.specs.State.{MachineState, StepResult, Next, Calls, Traps}
use Rattle.rv_core.specs.Operations.{register, with_register, sum_of, place_of, is_taken, load_size, store_size, read_at, put_at}
use Rattle.rv_core.specs.Execution.{goes_on, jumps, loads, stores, calls, service_of, executed}
use Rattle.rv_core.specs.Stepping.{executed_or_illegal, fetched, step_of}
use Rattle.rv_core.specs.Bytes.{word_at}
use Rattle.rv_core.specs.declared.services.Service.{Service}
use Rattle.rv_isa.specs.Table.{instruction_of}
use Rattle.rv_isa.specs.declared.instruction.LoadOp.{LoadOp}
use Rattle.rv_isa.specs.declared.instruction.StoreOp.{StoreOp}
use Rattle.rv_isa.specs.declared.instruction.Instr.{Instr}
use Rattle.rv_isa.specs.declared.instruction.Instr.TheVariants.{Lui, Auipc, Jal, Jalr, Branch, Load, Store, OpImm, Op, Fence, Ecall, Ebreak}

-- both count as many, with the same fuel
pub record Alike (s t : MachineState) : Type 0 where
  pub count : t.count ≡ s.count
  pub fuel : t.fuel ≡ s.fuel

-- what an instruction leaves, where it does not trap
abbrev Leaves : MachineState → StepResult → Type 0
Leaves s (Next t) = Alike s t
Leaves s (Calls t service) = Alike s t × (service_of t ≡ Some service)
Leaves s (Traps t cause) = Unit {0}

same : (s : MachineState) → Alike s s
same s = record { count = refl; fuel = refl }

with_register_alike : (s : MachineState) (r v : ℕ) → Alike s (with_register s r v)
with_register_alike s r v = by_test (r == 0)
  where
    by_test : (b : Bool) → Alike s (if b then s else record s { registers = slice_set s.registers r v })
    by_test true = same s
    by_test false = record { count = refl; fuel = refl }

either : (s : MachineState) (b : Bool) (x y : StepResult) → Leaves s x → Leaves s y → Leaves s (if b then x else y)
either s true x y p q = p
either s false x y p q = q

goes : (s t : MachineState) → Alike s t → Leaves s (goes_on t)
goes s t h = record { count = h.count; fuel = h.fuel }

jump : (s : MachineState) (target : ℕ) (t : MachineState) → Alike s t → Leaves s (jumps s target t)
jump s target t h = either s (target % 4 == 0) _ _ (record { count = h.count; fuel = h.fuel }) tt

load : (s : MachineState) (op : LoadOp) (r at : ℕ) → Leaves s (loads s op r at)
load s op r at =
    let inner : StepResult = if nat_le (at + load_size op) (length s.memory) then goes_on (with_register s r (read_at op s.memory at)) else Traps s cause.Load in
    let fits : Leaves s inner = either s (nat_le (at + load_size op) (length s.memory)) (goes_on (with_register s r (read_at op s.memory at))) (Traps s cause.Load) (goes s _ (with_register_alike s r (read_at op s.memory at))) tt in
    either s (at % load_size op == 0) inner (Traps s cause.LoadAlign) fits tt

store : (s : MachineState) (op : StoreOp) (at word : ℕ) → Leaves s (stores s op at word)
store s op at word =
    let done : StepResult = goes_on (record s { memory = put_at op s.memory at word }) in
    let inner : StepResult = if nat_le (at + store_size op) (length s.memory) then done else Traps s cause.Store in
    let fits : Leaves s inner = either s (nat_le (at + store_size op) (length s.memory)) done (Traps s cause.Store) (record { count = refl; fuel = refl }) tt in
    either s (at % store_size op == 0) inner (Traps s cause.StoreAlign) fits tt

call : (s : MachineState) (service : Option Service) → service_of s ≡ service → Leaves s (calls s service)
call s None e = tt
call s (Some service) e = (same s, e)

instruction : (s : MachineState) (i : Instr) → Leaves s (executed s i)
unfolding executed
instruction s (Lui rd imm) = goes s _ (with_register_alike s _ _)
instruction s (Auipc rd imm) = goes s _ (with_register_alike s _ _)
instruction s (Jal rd offset) = jump s _ _ (with_register_alike s _ _)
instruction s (Jalr rd rs1 imm) = jump s _ _ (with_register_alike s _ _)
instruction s (Branch op rs1 rs2 offset) = either s (is_taken op (register s rs1.0) (register s rs2.0)) (jumps s (place_of s.pc offset) s) (goes_on s) (jump s (place_of s.pc offset) s (same s)) (goes s s (same s))
instruction s (Load op rd rs1 imm) = load s op rd.0 (sum_of s rs1 imm)
instruction s (Store op rs1 rs2 imm) = store s op (sum_of s rs1 imm) (register s rs2.0)
instruction s (OpImm op rd rs1 imm) = goes s _ (with_register_alike s _ _)
instruction s (Op op rd rs1 rs2) = goes s _ (with_register_alike s _ _)
instruction s (Fence rd rs1 bits) = goes s s (same s)
instruction s Ecall = call s (service_of s) refl
instruction s Ebreak = tt

decoded : (s : MachineState) (i : Option Instr) → Leaves s (executed_or_illegal s i)
decoded s None = tt
decoded s (Some i) = instruction s i

-- one more instruction was counted, for which there was fuel
pub record IsCounted (s t : MachineState) : Type 0 where
  pub had : s.count < s.fuel
  pub count : t.count ≡ s.count + 1
  pub fuel : t.fuel ≡ s.fuel

abbrev pub Counts : MachineState → StepResult → Type 0
Counts s (Next t) = IsCounted s t
Counts s (Calls t service) = IsCounted s t × (service_of t ≡ Some service)
Counts s (Traps t cause) = Unit {0}

counted : (s : MachineState) (r : StepResult) → s.count < s.fuel → Leaves (record s { count = s.count + 1 }) r → Counts s r
counted s (Next t) h l = record { had = h; count = l.count; fuel = l.fuel }
counted s (Calls t service) h l = (record { had = h; count = l.0.count; fuel = l.0.fuel }, l.1)
counted s (Traps t cause) h l = tt

pub step_counts : (s : MachineState) → Counts s (step_of s)
step_counts s = by_test (nat_le s.fuel s.count) refl
  where
    by_test : (b : Bool) → nat_le s.fuel s.count ≡ b → Counts s (if b then Traps s cause.Fuel else fetched (record s { count = s.count + 1 }))
    by_test true e = tt
    by_test false e =
        let t : MachineState = record s { count = s.count + 1 } in
        counted s (fetched t) (leb-false s.fuel s.count e) (either t (nat_le (t.pc + 4) (length t.memory)) _ _ (decoded t (instruction_of (word_at t.memory t.pc))) tt)

pub registers_name_call : (m s : MachineState) (service : Service) → step_of m ≡ Calls s service → service_of s ≡ Some service
registers_name_call m s service e = (subst (Counts m) e (step_counts m)).1

use Rattle.std.proofs.Common.{eqb, sym, subst, ◌∙◌, arith}
use Rattle.rv_core.specs.State.{MachineState}
use Rattle.device_model.specs.Words.{Words}
use Rattle.table_machine.specs.Tables.{Tables}
use Rattle.kernel_core.specs.Keeping.{IsLawful, Keeps}
use Rattle.kernel_core.specs.Steps.{Passes}
use Rattle.kernel_core.specs.declared.kernel.Kernel.{Kernel}
use Rattle.kernel_core.proofs.Stepping.{power_on}
use Rattle.vol_copy.specs.Tries.{IsFor}
use Rattle.core_seats.specs.declared.seat.Seat as own
use Rattle.kernel_core.proofs.Turned.{all_at}
use Rattle.kernel_core.proofs.Unchanged.{goes, is_false, other_passes, same_kernel, went}
use Rattle.kernel_core.proofs.kernel.Kernel.pass_step.Goals as goal

pub returns-in-Boot-clause-passes : goal.returns-in-Boot-clause-passes
returns-in-Boot-clause-passes c = λ yes. other_passes c.args.self.now c.args.core.0 c.in-Boot.field-0 c.in-Boot.is (is_false (eqb c.args.core.0 0) yes)

pub returns-then-go-clause-passes : goal.returns-then-go-clause-passes
returns-then-go-clause-passes c = λ yes.
    let k = c.args.self.now in
    let h = c.requires.lawful.2 in
    goes k c.args.core c.from.result c.index_mut.result.now c.go.new.self (power_on k.power c.in_default.not-Boot) c.requires.core h.cores c.from.ensures c.index_mut.ensures.value (c.go.ensures.trying c.if-go.true) (c.go.ensures.running c.if-go.true) (c.go.ensures.kept k.set (all_at (λ (s : own.Seat). IsFor k.set s.attempt) k.seats.items c.from.result c.index_mut.result.now h.attempts (omega (arith, c.from.ensures, h.cores, c.requires.core)) c.index_mut.ensures.value)) (c.go.ensures.runs c.if-go.true k.set k.committed.versions)

pub is_still-requires-clause-lawful : goal.is_still-requires-clause-lawful
is_still-requires-clause-lawful c =
    let k = c.args.self.now in
    let l = c.requires.lawful in
    let cores = l.2.cores in
    let inside = c.requires.core in
    let same = same_kernel k c.from.result c.index_mut.result.now c.go.new.self (omega (arith, c.from.ensures, cores, inside)) c.index_mut.ensures.value (c.go.ensures.rests c.if-go.false) in
    subst (λ (j : Kernel). (words : Words) × (t : Tables MachineState) × Keeps j words t × IsLawful j words t) (sym same) l

pub returns-clause-passes : goal.returns-clause-passes
returns-clause-passes c = λ yes.
    let k = c.args.self.now in
    let cores = c.requires.lawful.2.cores in
    let inside = c.requires.core in
    let same = same_kernel k c.from.result c.index_mut.result.now c.go.new.self (omega (arith, c.from.ensures, cores, inside)) c.index_mut.ensures.value (c.go.ensures.rests c.if-go.false) in
    subst (λ (j : Kernel). Passes k c.args.core.0 j) (sym same) (subst (λ (j : Kernel). Passes j c.args.core.0 j) same (c.is_still.ensures yes))

pub returns-clause-kept : goal.returns-clause-kept
returns-clause-kept c = λ no.
    let k = c.args.self.now in
    let cores = c.requires.lawful.2.cores in
    let inside = c.requires.core in
    same_kernel k c.from.result c.index_mut.result.now c.go.new.self (omega (arith, c.from.ensures, cores, inside)) c.index_mut.ensures.value (c.go.ensures.rests c.if-go.false)

pub returns-in-Boot-clause-goes : goal.returns-in-Boot-clause-goes
returns-in-Boot-clause-goes c = λ no. λ g. absurd (cc (sym g.at.power ∙ c.in-Boot.is))

pub returns-clause-goes : goal.returns-clause-goes
returns-clause-goes c = λ no. λ g. went c.args.self.now c.args.core.0 c.from.result c.index_mut.result.now c.from.ensures c.index_mut.ensures.value (c.go.ensures.stops c.if-go.false) g

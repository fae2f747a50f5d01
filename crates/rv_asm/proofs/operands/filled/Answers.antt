use Rattle.std.proofs.Common.{sym, ◌∙◌}
use Rattle.rv_asm.specs.Seen.{open_seen}
use Rattle.rv_asm.proofs.Cuts.{none_left, no_operand, no_fill, one_filled, all_filled, too_many}
use Rattle.rv_asm.proofs.operands.filled.Goals as goal

pub returns-in_err-rest : goal.returns-in_err-rest
returns-in_err-rest c =
    let so_far = rw c.in_err-rest.was at c.loop-operand.invariant in
    rw c.from_residual.ensures (sym (none_left c.args.operands.now c.loop-operand.operand-index (open_seen c.loop-operand.partial) c.loop-operand-test.true) ∙ so_far)

pub returns-in_err-operand_of : goal.returns-in_err-operand_of
returns-in_err-operand_of c =
    let so_far = rw c.in_ok-rest.was at c.loop-operand.invariant in
    rw c.from_residual-in_err-operand_of.ensures (sym (no_operand c.args.operands.now c.loop-operand.operand-index c.in_ok-rest.field-0.now _ _ (open_seen c.loop-operand.partial) c.loop-operand-test.true c.cut.ensures c.in_err-operand_of.ensures) ∙ so_far)

pub returns-in_err-partial : goal.returns-in_err-partial
returns-in_err-partial c =
    let so_far = rw c.in_ok-rest.was at c.loop-operand.invariant in
    rw c.from_residual-in_err-partial.ensures (sym (no_fill c.args.operands.now c.loop-operand.operand-index _ c.in_ok-rest.field-0.now _ _ _ (open_seen c.loop-operand.partial) c.loop-operand-test.true c.cut.ensures c.in_ok-operand_of.ensures c.in_err-partial.ensures) ∙ so_far)

pub loop-operand-preserved : goal.loop-operand-preserved
loop-operand-preserved c =
    let so_far = rw c.in_ok-rest.was at c.loop-operand.invariant in
    sym (one_filled c.args.operands.now c.loop-operand.operand-index _ c.in_ok-rest.field-0.now _ _ _ (open_seen c.loop-operand.partial) (open_seen c.in_ok-partial.partial) c.loop-operand-test.true c.cut.ensures c.in_ok-operand_of.ensures c.in_ok-partial.ensures) ∙ so_far

pub returns-in-None : goal.returns-in-None
returns-in-None c =
    let so_far = rw c.in-None.is at c.loop-operand.invariant in
    sym (all_filled c.args.operands.now c.loop-operand.operand-index (open_seen c.loop-operand.partial) c.loop-operand-test.false) ∙ so_far

pub returns-in-Some : goal.returns-in-Some
returns-in-Some c =
    let so_far = rw c.in-Some.is at c.loop-operand.invariant in
    sym (too_many c.args.operands.now c.loop-operand.operand-index c.in-Some.field-0.now (open_seen c.loop-operand.partial) c.loop-operand-test.false) ∙ so_far

use Rattle.std.proofs.Common.{arith}
use Rattle.task_image.proofs.Whole.{read_is_packed, place_is_near}
use Rattle.task_image.proofs.reading.read_set.Goals as goal

pub of-requires-clause-limits : goal.of-requires-clause-limits
of-requires-clause-limits c = c.none_broken_is_within.ensures.none _ ((read_is_packed c.args.bytes.now c.in-Ok.parts (λ i. omega (arith, c.type_inv.bytes i)) c.in-Ok.ensures).1)

pub of-requires-clause-names : goal.of-requires-clause-names
of-requires-clause-names c = (read_is_packed c.args.bytes.now c.in-Ok.parts (λ i. omega (arith, c.type_inv.bytes i)) c.in-Ok.ensures).2

pub overflow_cast-result : goal.overflow_cast-result
overflow_cast-result c =
    let e = rw c.in-Err-At.field-0-is at c.in-Err-At.ensures in
    let near = (place_is_near c.args.bytes.now c.in-Err-At.place (λ i. omega (arith, c.type_inv.bytes i)) e).1 in
    omega (arith, near)

use Rattle.std.proofs.Common.{sym, ◌∙◌}
use Rattle.plain_text.specs.Left.{lines_left}
use Rattle.script.proofs.FrontLines.{one_passed, slice_left}
use Rattle.script.proofs.front.front_end.Goals as goal

pub loop-line-preserved : goal.loop-line-preserved
loop-line-preserved c =
    let passed = one_passed c.args.bytes.now c.loop-line.rest.now c.in-Some.line.now (lines_left c.next.new.self) c.loop-line.in_block c.loop-line.invariant (sym c.new.ensures.lines ∙ c.in-Some.ensures.steps) (sym c.ends_front.ensures ∙ c.if-ends_front.false) in
    rw (c.is_open_after-in_block.ensures, slice_left c.loop-line.rest.now c.line_end.result c.line_end.ensures.exact) passed

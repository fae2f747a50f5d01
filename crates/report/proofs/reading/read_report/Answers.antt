use Rattle.std.proofs.lemmas.Result.{err_from_is_err_and}
use Rattle.report.specs.declared.report.ReportRefusal.TheVariants.{Bad}
use Rattle.report.proofs.ReportSizes.{report_shape, report_is_short}
use Rattle.report.proofs.Verdicts.{handed_on, line_is_small, one_taken, bad_line, read_to_end, bad_end}
use Rattle.report.proofs.reading.read_report.Goals as goal

pub take-requires : goal.take-requires
take-requires c = line_is_small c.args.set.now c.is_named.ensures.names c.is_named.ensures.limits.cores.1 c.args.bytes.now c.loop-line.rest.now c.loop-line.reader c.loop-line.invariant c.requires

pub returns-in_err-take-clause-bad : goal.returns-in_err-take-clause-bad
returns-in_err-take-clause-bad c = λ line e.
    let p = err_from_is_err_and c.from_residual.result c.from_residual.ensures.1 in
    bad_line c.args.set.now c.is_named.ensures.names c.is_named.ensures.limits.cores.1 c.args.bytes.now c.loop-line.rest.now c.in-Some.line.now c.in-Some.left.now c.loop-line.reader c.take.new.self c.in_err-take.field-0.0
    c.loop-line.invariant c.in-Some.ensures.1 c.in-Some.ensures.0 c.in_err-take.ensures line (handed_on c.from_residual.result c.in_err-take.field-0.0 p.0 (Bad line) p.1 p.2 e)

pub loop-line-preserved : goal.loop-line-preserved
loop-line-preserved c =
    one_taken c.args.set.now c.args.bytes.now c.loop-line.rest.now c.in-Some.line.now c.in-Some.left.now c.loop-line.reader c.take.new.self c.loop-line.invariant c.in-Some.ensures.1 c.in-Some.ensures.0 c.in_ok-take.ensures

pub returns-clause-read : goal.returns-clause-read
returns-clause-read c = read_to_end c.args.set.now c.is_named.ensures.names c.is_named.ensures.limits.cores.1 c.args.bytes.now c.loop-line.rest.now c.loop-line.reader c.finish.result c.loop-line.invariant c.finish.ensures

pub returns-clause-bad : goal.returns-clause-bad
returns-clause-bad c = bad_end c.args.set.now c.is_named.ensures.names c.is_named.ensures.limits.cores.1 c.args.bytes.now c.loop-line.rest.now c.loop-line.reader c.finish.result c.loop-line.invariant c.in_default.ensures c.finish.ensures

pub returns-clause-shape : goal.returns-clause-shape
returns-clause-shape c = report_shape c.args.set.now c.args.bytes.now c.finish.result (returns-clause-read c)

pub returns-clause-short : goal.returns-clause-short
returns-clause-short c = report_is_short c.args.set.now c.is_named.ensures.names c.is_named.ensures.limits.cores.1 c.args.bytes.now c.finish.result c.requires (returns-clause-read c)

use Rattle.std.proofs.Common.{sym, refl, ◌∙◌}
use Rattle.interval.specs.Ranges.{number_of}
use Rattle.ver_table.specs.Chains.{chain_at, newest_before}
use Rattle.validate.proofs.OutsideReads.{admitted, is_stale, some_place}
use Rattle.validate.proofs.reading.admit.Goals as goal

pub returns-then-is_empty : goal.returns-then-is_empty
returns-then-is_empty c = is_stale c.args.versions.now c.args.reads c.args.object.0 (record { lo = c.args.reads.lo; hi = c.end_of.result }) (sym c.is_empty.ensures ∙ c.if-is_empty.true) refl c.end_of.ensures

pub returns : goal.returns
returns c =
    let some = sym c.is_empty.ensures ∙ c.if-is_empty.false in
    let found = some_place (newest_before (number_of c.args.reads.hi) (chain_at c.args.versions.now c.args.object.0).stored) (c.requires.begun some) in
    let told = c.choose.ensures.chosen found.0 found.1 in
    admitted c.args.versions.now c.args.reads c.args.object c.choose.result found.0 some c.choose.ensures.object c.choose.ensures.slot found.1 told.0 told.1 told.2

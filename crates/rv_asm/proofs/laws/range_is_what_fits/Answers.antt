use Rattle.rv_asm.proofs.Ranges.{value_is_whole, whole_value_fits}
use Rattle.rv_asm.proofs.laws.range_is_what_fits.Goals as goal

pub returns-clause-fits : goal.returns-clause-fits
returns-clause-fits c = value_is_whole

pub returns-clause-only : goal.returns-clause-only
returns-clause-only c = whole_value_fits

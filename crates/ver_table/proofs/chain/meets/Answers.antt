use Rattle.std.proofs.Common.{refl}
use Rattle.interval.specs.Ranges.{number_of}
use Rattle.ver_table.specs.Chains.{lived}
use Rattle.ver_table.proofs.chain.meets.Goals as goal

pub returns : goal.returns
returns c = c.meets.ensures (lived c.args.begin.0 (number_of c.args.end)) refl refl

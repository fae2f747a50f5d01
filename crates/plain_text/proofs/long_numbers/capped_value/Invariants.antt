use Rattle.std.proofs.Common.{◌≡◌, take, min}
use Rattle.std.specs.Str.Parse.{digits_value}
use Rattle.plain_text.proofs.long_numbers.capped_value.Given as goal

abbrev pub invariant-loop-d : goal.invariant-loop-d
invariant-loop-d l = l.total ≡ min 0x200000000 (digits_value l.radix (take l.d-index l.digits))

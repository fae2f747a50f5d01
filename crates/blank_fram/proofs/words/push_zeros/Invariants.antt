use Rattle.std.proofs.Common.{◌≡◌, ◌++◌, replicate, vec_capacity}
use Rattle.blank_fram.proofs.words.push_zeros.Given as goal

abbrev pub invariant-loop : goal.invariant-loop
invariant-loop l = record {
  words : l.kept.items ≡ l.initial.kept.items ++ replicate l.counter 0;
  room : vec_capacity l.kept ≡ vec_capacity l.initial.kept;
}

use Rattle.std.proofs.Common.{◌≡◌, ◌≤◌, take}
use Rattle.std.specs.Prelude.{vec_capacity}
use Rattle.kernel_model.specs.Effects.{object_words}
use Rattle.recovery.specs.Images.{words_of}
use Rattle.simulation.specs.Runs.{read_at}
use Rattle.simulation.proofs.objects.read_words.Given as goal

abbrev pub invariant-loop-i : goal.invariant-loop-i
invariant-loop-i g l = record {
  words : l.into.items ≡ take l.i (object_words (read_at l.set (words_of (g.F.Fram.log l.initial.dev) (g.F.Fram.start l.initial.dev))).objects l.o.0);
  room : vec_capacity l.into ≡ vec_capacity l.initial.into;
  log : g.F.Fram.log l.dev ≡ g.F.Fram.log l.initial.dev;
  start : g.F.Fram.start l.dev ≡ g.F.Fram.start l.initial.dev;
  losses : g.F.Fram.lost l.initial.dev ≤ g.F.Fram.lost l.dev;
}

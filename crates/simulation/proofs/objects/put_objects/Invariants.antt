use Rattle.std.proofs.Common.{◌≡◌, ◌≤◌, take}
use Rattle.std.specs.Prelude.{vec_capacity}
use Rattle.nv_base.specs.Streams.{PutsText}
use Rattle.recovery.specs.Images.{words_of}
use Rattle.report_text.specs.Report.{objects_text}
use Rattle.simulation.specs.Runs.{read_at}
use Rattle.simulation.proofs.objects.put_objects.Given as goal

abbrev pub invariant-loop-o : goal.invariant-loop-o
invariant-loop-o g l = record {
  puts : PutsText (objects_text (take l.o l.set.objects) (take l.o (read_at l.set (words_of (g.F.Fram.log l.initial.dev) (g.F.Fram.start l.initial.dev))).objects)) (g.K.Sink.seen l.initial.out) (g.K.Sink.seen l.out);
  state : l.place.state ≡ l.initial.place.state;
  room : vec_capacity l.place.words ≡ vec_capacity l.initial.place.words;
  log : g.F.Fram.log l.dev ≡ g.F.Fram.log l.initial.dev;
  start : g.F.Fram.start l.dev ≡ g.F.Fram.start l.initial.dev;
  losses : g.F.Fram.lost l.initial.dev ≤ g.F.Fram.lost l.dev;
}

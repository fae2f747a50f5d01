use Rattle.std.proofs.Common.{◌≡◌, ◌-◌, ◌≤◌, ◌++◌, vec_len, vec_capacity}
use Rattle.object_sets.specs.ObjectSets.{is_among}
use Rattle.commit_writer.specs.Lists.{objects_by}
use Rattle.commit_writer.proofs.fill.list_objects.Given as goal

abbrev pub invariant-loop-o : goal.invariant-loop-o
invariant-loop-o l = record {
  so_far : l.objects.items ++ objects_by (λ k. is_among k l.written) l.o (l.count - l.o) ≡ objects_by (λ k. is_among k l.written) 0 l.count;
  few : vec_len l.objects ≤ l.o;
  room : vec_capacity l.objects ≡ vec_capacity l.initial.objects;
}

use Rattle.std.proofs.Common.{◌≡◌, take, vec_len, vec_capacity}
use Rattle.commit_writer.specs.Afters.{planned_slots}
use Rattle.commit_writer.proofs.after.put_slots.Given as goal

abbrev pub invariant-loop-o : goal.invariant-loop-o
invariant-loop-o l = record {
  slots : l.after.items ≡ planned_slots l.plan (take l.o l.before);
  long : vec_len l.after ≡ l.o;
  room : vec_capacity l.after ≡ vec_capacity l.initial.after;
}

use Rattle.std.proofs.Common.{◌≡◌, ℕ, ◌<◌, length, take}
use Rattle.commit_writer.specs.Lists.{marked, names_object}
use Rattle.commit_writer.proofs.job.Job.named_pages.Given as goal

abbrev pub invariant-loop-o : goal.invariant-loop-o
invariant-loop-o l = record {
  long : length l.named ≡ 31;
  done : (page : ℕ) → page < 31 → marked l.named page ≡ names_object l.words (take l.o-index l.self.objects.items) page;
}

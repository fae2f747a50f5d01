use Rattle.std.proofs.Common.{◌≡◌, ℕ, ◌+◌, ◌<◌, ◌≤◌, length, slice_index}
use Rattle.shadow_index.specs.States.{word_of}
use Rattle.commit_writer.specs.Lists.{is_page_changed, marked, names_object}
use Rattle.commit_writer.specs.Rooms.{layout_by}
use Rattle.commit_writer.proofs.job.Job.changed_pages.Given as goal

abbrev pub invariant-loop-page : goal.invariant-loop-page
invariant-loop-page l =
    let words : ℕ = (layout_by l.set l.self.shift).page_words in
    record {
      long : length l.changed ≡ 31;
      done : (page : ℕ) → page < l.page → marked l.changed page ≡ is_page_changed (9 + length l.set.objects) words l.self.objects.items (word_of l.before) (slice_index l.self.words.items) page;
      todo : (page : ℕ) → l.page ≤ page → page < 31 → marked l.changed page ≡ names_object words l.self.objects.items page;
    }

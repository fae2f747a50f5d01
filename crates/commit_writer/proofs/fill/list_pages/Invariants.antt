use Rattle.std.proofs.Common.{◌≡◌, ◌-◌, ◌≤◌, ◌++◌, vec_len, vec_capacity}
use Rattle.commit_writer.specs.Lists.{marked, pages_by}
use Rattle.commit_writer.proofs.fill.list_pages.Given as goal

abbrev pub invariant-loop-page : goal.invariant-loop-page
invariant-loop-page l = record {
  so_far : l.pages.items ++ pages_by (marked l.changed) l.page (l.count - l.page) ≡ pages_by (marked l.changed) 0 l.count;
  few : vec_len l.pages ≤ l.page;
  room : vec_capacity l.pages ≡ vec_capacity l.initial.pages;
}

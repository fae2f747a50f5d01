use Rattle.std.proofs.Common.{◌≡◌, ℕ, ◌<◌, ◌+◌, ◌*◌, length}
use Rattle.shadow_index.specs.Looks.{looked}
use Rattle.shadow_index.proofs.tables.page_places.Given as goal

abbrev pub invariant-loop-page : goal.invariant-loop-page
invariant-loop-page l = record {
  long : length l.places ≡ 31;
  at : l.at ≡ l.shape.pages_at + 2 * l.page * l.shape.page_words;
  done : (page copy : ℕ) → page < l.page → copy < 2 → looked l.places page copy ≡ l.shape.pages_at + (2 * page + copy) * l.shape.page_words;
}

-- Where the root and the pages of a layout stand. This project's own.
use Rattle.std.specs.Prelude.{◌≡◌, ℕ, ◌+◌}
use Rattle.set_model.specs.Sets.{TaskSet}
use Rattle.device_model.specs.Layouts.{Layout, count_pages, words_of_page}
use Rattle.shadow_index.specs.declared.shape.Shape.{Shape}

-- these are the numbers of a layout
pub record IsShapeOf (l : Layout) (s : Shape) : Type 0 where
  pub root : s.root ≡ l.root
  pub pages : s.pages ≡ l.pages
  pub page_words : s.page_words ≡ l.page_words
  pub pages_at : s.pages_at ≡ l.pages_at

-- these are the numbers of pages behind a root at a place
pub record IsPagedAt (set : TaskSet) (root : ℕ) (s : Shape) : Type 0 where
  pub at : s.root ≡ root
  pub pages : s.pages ≡ count_pages set
  pub page_words : s.page_words ≡ words_of_page set
  pub pages_at : s.pages_at ≡ root + 1

-- What the laws ask of a layout, and what each kind of device gives. This project's own.
use Rattle.std.specs.Prelude.{◌≡◌, ◌≢◌, ◌⊎◌, ℕ, ◌-◌, ◌<◌, ◌≤◌, Bool, true, if◌then◌else◌}
use Rattle.set_model.specs.Sets.{TaskSet}
use Rattle.set_model.specs.Numbers.{index_words, first_index}
use Rattle.device_model.specs.Layouts.{Layout, index_reads}

-- the header stands first, then the root where it is not word 1, then the pages; the pages hold the index, and each root names a copy of each page
pub record IsLaidOut (set : TaskSet) (l : Layout) : Type 0 where
  pub magic : l.magic ≢ 0
  pub page_words : 9 ≤ l.page_words
  pub pages : 0 < l.pages
  pub fits : index_words set ≤ index_reads l
  pub header_first : first_index set ≤ l.pages_at
  pub root_first : l.root < l.pages_at
  pub root_apart : (l.root ≡ 1) ⊎ (first_index set ≤ l.root)
  pub head_read : first_index set ≤ l.head_reads
  pub root_in : l.root_read < l.head_reads
  pub root_once : (l.root_read ≡ 1) ⊎ (first_index set ≤ l.root_read)
  pub then_root : (j : ℕ) → first_index set ≤ j → j < l.head_reads → j ≡ l.root_read
  pub is_first_root : l.is_root l.first_root ≡ true
  pub first_copy : (page : ℕ) → page < l.pages → l.copy l.first_root page ≡ 0
  pub copies : (root page : ℕ) → l.is_root root ≡ true → page < l.pages → l.copy root page < 2
  pub is_flipped : (turns : ℕ → Bool) (root : ℕ) → l.is_root root ≡ true
      → l.is_root (l.flipped turns root) ≡ true
  pub other_copy : (turns : ℕ → Bool) (root page : ℕ) → l.is_root root ≡ true → page < l.pages
      → l.copy (l.flipped turns root) page
      ≡ (if turns page then 1 - l.copy root page else l.copy root page)

-- Which objects and pages a commit writes, as lists. This project's own.
use Rattle.std.specs.Prelude.{ℕ, zero, suc, ◌+◌, ◌*◌, ◌/◌, ◌==◌, Bool, false, ◌||◌, List, [], ◌∷◌, get_or, if◌then◌else◌}
use Rattle.std.specs.List.{list_any}
use Rattle.nv_base.specs.declared.ids.ObjId.{ObjId}
use Rattle.device_model.specs.Words.{Words}
use Rattle.device_model.specs.Commits.{differs}

-- the objects of n from number o on that are written
abbrev pub objects_by : (ℕ → Bool) → (o n : ℕ) → List ObjId
objects_by is_written o zero = []
objects_by is_written o (suc n) =
    if is_written o then record { 0 = o } ∷ objects_by is_written (o + 1) n
    else objects_by is_written (o + 1) n

-- the pages of n from a number on that are changed
abbrev pub pages_by : (ℕ → Bool) → (page n : ℕ) → List ℕ
pages_by changed page zero = []
pages_by changed page (suc n) =
    if changed page then page ∷ pages_by changed (page + 1) n
    else pages_by changed (page + 1) n

-- whether a page holds the slot word of one of some objects
abbrev pub names_object : (page_words : ℕ) → List ObjId → ℕ → Bool
names_object page_words objects page =
    list_any (λ (o : ObjId). (9 + o.0) / page_words == page) objects

-- whether a page is changed: page 0 always is, and each that holds the slot word of a written object, or a word behind all slots that differs
abbrev pub is_page_changed : (low page_words : ℕ) → List ObjId → (before after : Words) → ℕ → Bool
is_page_changed low page_words objects before after page =
    (page == 0)
    || (names_object page_words objects page
    || differs low before after (page * page_words) page_words)

-- what a table of marks says of a page
abbrev pub marked : List Bool → ℕ → Bool
marked table page = get_or table page false

-- What is left of a commit at the next position.
use Rattle.std.proofs.Common.{◌≡◌, ℕ, suc, ◌+◌, ◌-◌, ◌*◌, ◌<◌, ◌≤◌, Bool, List, [], ◌∷◌, ◌++◌, drop, get_or, length, slice_index, refl, ap, sym, ◌∙◌, arith}
use Rattle.std.proofs.Math.Seq.{drop-cons}
use Rattle.std.proofs.Math.ListN.{get_or-append, drop_of_length-le}
use Rattle.std.proofs.lemmas.List.{length-append}
use Rattle.std.proofs.lemmas.List.Concat.{flat_map-cons}
use Rattle.nv_base.specs.declared.ids.ObjId.{ObjId}
use Rattle.device_model.specs.Words.{Change, Words, written_at, words_from}
use Rattle.device_model.specs.Layouts.{copy_place, slot_place}
use Rattle.device_model.specs.IndexWords.{index_word}
use Rattle.device_model.specs.Commits.{page_change}
use Rattle.device_model.specs.Devices.{layout_on}
use Rattle.device_model.proofs.ForCallers.{get-written, length-words_from, length-written, word_from}
use Rattle.commit_writer.specs.declared.job.Job.{Job}
use Rattle.commit_writer.specs.declared.position.Position as own
use Rattle.commit_writer.specs.declared.position.Position.TheVariants.{Object, Page, Root, Done}
use Rattle.commit_writer.specs.Courses.{Course, IsLeftFrom, IsNextPosition, IsPosition, first_left, left, no_object, object_write, object_writes, page_write, page_writes, root_writes}

-- ---- one run of words, and what comes behind it

in_run : (p : ℕ) (xs : List ℕ) (rest : List Change) (i : ℕ) → i < length xs → drop i (written_at p xs ++ rest) ≡ (p + i, slice_index xs i) ∷ drop (i + 1) (written_at p xs ++ rest)
in_run p xs rest i l =
    let d : Change = (0, 0) in
    let n : i < length (written_at p xs) = omega (arith, l, length-written p xs) in
    let m : i < length (written_at p xs ++ rest) = omega (arith, n, length-append (written_at p xs) rest) in
    let e : suc i ≡ i + 1 = omega arith in
    drop-cons (written_at p xs ++ rest) i d m
    ∙ ap (λ (c : Change). c ∷ drop (suc i) (written_at p xs ++ rest)) (get_or-append (written_at p xs) rest d i n ∙ get-written p xs i d l)
    ∙ ap (λ (k : ℕ). let c : Change = (p + i, slice_index xs i) in c ∷ drop k (written_at p xs ++ rest)) e

past_run : (p : ℕ) (xs : List ℕ) (rest : List Change) (i : ℕ) → i ≡ length xs → drop i (written_at p xs ++ rest) ≡ rest
past_run p [] rest i e = ap (λ (k : ℕ). drop k rest) e
past_run p (x ∷ xs) rest i e = ap (λ (k : ℕ). drop k (written_at p (x ∷ xs) ++ rest)) e ∙ past_run (p + 1) xs rest (length xs) refl

-- ---- objects

object_row : (g : Course) (words : ℕ → List ℕ) (objects : List ObjId) (k : ℕ) → k < length objects →
    object_writes g words (drop k objects) ≡ written_at (object_write g words (get_or objects k no_object).0 0).0 (words (get_or objects k no_object).0) ++ object_writes g words (drop (k + 1) objects)
object_row g words objects k l =
    let e : suc k ≡ k + 1 = omega arith in
    let o : ObjId = get_or objects k no_object in
    let p : ℕ = slot_place (layout_on g.device) g.device.set o.0 (slice_index g.commit.after.slots o.0) in
    let z : p ≡ p + 0 = omega arith in
    ap (object_writes g words) (drop-cons objects k no_object l)
    ∙ ap (λ (q : ℕ). written_at q (words o.0) ++ object_writes g words (drop (suc k) objects)) z
    ∙ ap (λ (n : ℕ). written_at (p + 0) (words o.0) ++ object_writes g words (drop n objects)) e

pub object_now : (g : Course) (words : ℕ → List ℕ) (objects : List ObjId) (k i : ℕ) → k < length objects → i < length (words (get_or objects k no_object).0) →
    drop i (object_writes g words (drop k objects)) ≡ object_write g words (get_or objects k no_object).0 i ∷ drop (i + 1) (object_writes g words (drop k objects))
object_now g words objects k i l m =
    let o : ObjId = get_or objects k no_object in
    let p : ℕ = slot_place (layout_on g.device) g.device.set o.0 (slice_index g.commit.after.slots o.0) in
    let z : p + 0 + i ≡ p + i = omega arith in
    let rest : List Change = object_writes g words (drop (k + 1) objects) in
    ap (drop i) (object_row g words objects k l) ∙ in_run (p + 0) (words o.0) rest i m
    ∙ ap (λ (q : ℕ). let c : Change = (q, slice_index (words o.0) i) in c ∷ drop (i + 1) (written_at (p + 0) (words o.0) ++ rest)) z
    ∙ ap (λ (log : List Change). object_write g words o.0 i ∷ drop (i + 1) log) (sym (object_row g words objects k l))

pub object_past : (g : Course) (words : ℕ → List ℕ) (objects : List ObjId) (k i : ℕ) → k < length objects → i ≡ length (words (get_or objects k no_object).0) →
    drop i (object_writes g words (drop k objects)) ≡ object_writes g words (drop (k + 1) objects)
object_past g words objects k i l m =
    ap (drop i) (object_row g words objects k l) ∙ past_run (object_write g words (get_or objects k no_object).0 0).0 (words (get_or objects k no_object).0) (object_writes g words (drop (k + 1) objects)) i m

pub no_more_objects : (g : Course) (words : ℕ → List ℕ) (objects : List ObjId) (k : ℕ) → length objects ≤ k → object_writes g words (drop k objects) ≡ []
no_more_objects g words objects k l = ap (object_writes g words) (drop_of_length-le objects l)

-- ---- pages

page_row : (g : Course) (pages : List ℕ) (k : ℕ) → k < length pages →
    page_writes g (drop k pages) ≡ page_change (layout_on g.device) g.held.root g.commit.after (get_or pages k 0) ++ page_writes g (drop (k + 1) pages)
page_row g pages k l =
    let e : suc k ≡ k + 1 = omega arith in
    ap (page_writes g) (drop-cons pages k 0 l)
    ∙ flat_map-cons (page_change (layout_on g.device) g.held.root g.commit.after) (get_or pages k 0) (drop (suc k) pages)
    ∙ ap (λ (n : ℕ). page_change (layout_on g.device) g.held.root g.commit.after (get_or pages k 0) ++ page_writes g (drop n pages)) e

pub page_now : (g : Course) (pages : List ℕ) (k i : ℕ) → k < length pages → i < (layout_on g.device).page_words →
    drop i (page_writes g (drop k pages)) ≡ page_write g (get_or pages k 0) i ∷ drop (i + 1) (page_writes g (drop k pages))
page_now g pages k i l m =
    let y = layout_on g.device in
    let page : ℕ = get_or pages k 0 in
    let f : Words = index_word g.commit.after in
    let xs : List ℕ = words_from f (page * y.page_words) y.page_words in
    let p : ℕ = copy_place y page (1 - y.copy g.held.root page) 0 in
    let rest : List Change = page_writes g (drop (k + 1) pages) in
    ap (drop i) (page_row g pages k l)
    ∙ in_run p xs rest i (omega (arith, m, length-words_from f (page * y.page_words) y.page_words))
    ∙ ap (λ (w : ℕ). let c : Change = (p + i, w) in c ∷ drop (i + 1) (written_at p xs ++ rest)) (word_from f (page * y.page_words) y.page_words i m)
    ∙ ap (λ (log : List Change). page_write g page i ∷ drop (i + 1) log) (sym (page_row g pages k l))

pub page_past : (g : Course) (pages : List ℕ) (k i : ℕ) → k < length pages → i ≡ (layout_on g.device).page_words →
    drop i (page_writes g (drop k pages)) ≡ page_writes g (drop (k + 1) pages)
page_past g pages k i l m =
    let y = layout_on g.device in
    let page : ℕ = get_or pages k 0 in
    let f : Words = index_word g.commit.after in
    ap (drop i) (page_row g pages k l)
    ∙ past_run (copy_place y page (1 - y.copy g.held.root page) 0) (words_from f (page * y.page_words) y.page_words) (page_writes g (drop (k + 1) pages)) i (m ∙ sym (length-words_from f (page * y.page_words) y.page_words))

pub no_more_pages : (g : Course) (pages : List ℕ) (k : ℕ) → length pages ≤ k → page_writes g (drop k pages) ≡ []
no_more_pages g pages k l = ap (page_writes g) (drop_of_length-le pages l)

-- ---- the next position

behind : (c : Change) (xs ys rest : List Change) → xs ≡ c ∷ ys → xs ++ rest ≡ c ∷ (ys ++ rest)
behind c xs ys rest e = ap (λ (log : List Change). log ++ rest) e

pub next_object_word : (g : Course) (is_written : ℕ → Bool) (words : ℕ → List ℕ) (job : Job) (nth word : ℕ) → IsPosition g words job (Object nth word) → word + 1 < length (words (get_or job.objects.items nth no_object).0)
    → IsNextPosition g words job (Object nth word) (Object nth (word + 1))
next_object_word g is_written words job nth word p m = record {
  left = behind (object_write g words (get_or job.objects.items nth no_object).0 word) (drop word (object_writes g words (drop nth job.objects.items))) (drop (word + 1) (object_writes g words (drop nth job.objects.items))) (page_writes g job.pages.items ++ root_writes g) (object_now g words job.objects.items nth word p.0 p.1);
  at = (p.0, m);
}

-- the last word of an object
last_word : (g : Course) (words : ℕ → List ℕ) (job : Job) (nth word : ℕ) → IsPosition g words job (Object nth word) → word + 1 ≡ length (words (get_or job.objects.items nth no_object).0)
    → drop word (object_writes g words (drop nth job.objects.items)) ≡ object_write g words (get_or job.objects.items nth no_object).0 word ∷ object_writes g words (drop (nth + 1) job.objects.items)
last_word g words job nth word p e =
    object_now g words job.objects.items nth word p.0 p.1
    ∙ ap (λ (log : List Change). object_write g words (get_or job.objects.items nth no_object).0 word ∷ log) (object_past g words job.objects.items nth (word + 1) p.0 e)

pub next_object : (g : Course) (words : ℕ → List ℕ) (job : Job) (nth word : ℕ) → IsPosition g words job (Object nth word) → word + 1 ≡ length (words (get_or job.objects.items nth no_object).0)
    → nth + 1 < length job.objects.items → 0 < length (words (get_or job.objects.items (nth + 1) no_object).0) → IsNextPosition g words job (Object nth word) (Object (nth + 1) 0)
next_object g words job nth word p e l m = record {
  left = behind (object_write g words (get_or job.objects.items nth no_object).0 word) (drop word (object_writes g words (drop nth job.objects.items))) (object_writes g words (drop (nth + 1) job.objects.items)) (page_writes g job.pages.items ++ root_writes g) (last_word g words job nth word p e);
  at = (l, m);
}

pub first_page : (g : Course) (words : ℕ → List ℕ) (job : Job) (nth word : ℕ) → IsPosition g words job (Object nth word) → word + 1 ≡ length (words (get_or job.objects.items nth no_object).0)
    → length job.objects.items ≤ nth + 1 → 0 < length job.pages.items → 0 < (layout_on g.device).page_words → IsNextPosition g words job (Object nth word) (Page 0 0)
first_page g words job nth word p e l a b = record {
  left = behind (object_write g words (get_or job.objects.items nth no_object).0 word) (drop word (object_writes g words (drop nth job.objects.items))) [] (page_writes g job.pages.items ++ root_writes g)
      (last_word g words job nth word p e ∙ ap (λ (log : List Change). object_write g words (get_or job.objects.items nth no_object).0 word ∷ log) (no_more_objects g words job.objects.items (nth + 1) l));
  at = (a, b);
}

pub next_page_word : (g : Course) (words : ℕ → List ℕ) (job : Job) (nth word : ℕ) → IsPosition g words job (Page nth word) → word + 1 < (layout_on g.device).page_words
    → IsNextPosition g words job (Page nth word) (Page nth (word + 1))
next_page_word g words job nth word p m = record {
  left = behind (page_write g (get_or job.pages.items nth 0) word) (drop word (page_writes g (drop nth job.pages.items))) (drop (word + 1) (page_writes g (drop nth job.pages.items))) (root_writes g) (page_now g job.pages.items nth word p.0 p.1);
  at = (p.0, m);
}

last_page_word : (g : Course) (words : ℕ → List ℕ) (job : Job) (nth word : ℕ) → IsPosition g words job (Page nth word) → word + 1 ≡ (layout_on g.device).page_words
    → drop word (page_writes g (drop nth job.pages.items)) ≡ page_write g (get_or job.pages.items nth 0) word ∷ page_writes g (drop (nth + 1) job.pages.items)
last_page_word g words job nth word p e =
    page_now g job.pages.items nth word p.0 p.1
    ∙ ap (λ (log : List Change). page_write g (get_or job.pages.items nth 0) word ∷ log) (page_past g job.pages.items nth (word + 1) p.0 e)

pub next_page : (g : Course) (words : ℕ → List ℕ) (job : Job) (nth word : ℕ) → IsPosition g words job (Page nth word) → word + 1 ≡ (layout_on g.device).page_words
    → nth + 1 < length job.pages.items → 0 < (layout_on g.device).page_words → IsNextPosition g words job (Page nth word) (Page (nth + 1) 0)
next_page g words job nth word p e l m = record {
  left = behind (page_write g (get_or job.pages.items nth 0) word) (drop word (page_writes g (drop nth job.pages.items))) (page_writes g (drop (nth + 1) job.pages.items)) (root_writes g) (last_page_word g words job nth word p e);
  at = (l, m);
}

pub then_root : (g : Course) (words : ℕ → List ℕ) (job : Job) (nth word : ℕ) → IsPosition g words job (Page nth word) → word + 1 ≡ (layout_on g.device).page_words
    → length job.pages.items ≤ nth + 1 → IsNextPosition g words job (Page nth word) Root
then_root g words job nth word p e l = record {
  left = behind (page_write g (get_or job.pages.items nth 0) word) (drop word (page_writes g (drop nth job.pages.items))) [] (root_writes g)
      (last_page_word g words job nth word p e ∙ ap (λ (log : List Change). page_write g (get_or job.pages.items nth 0) word ∷ log) (no_more_pages g job.pages.items (nth + 1) l));
  at = tt;
}

pub then_done : (g : Course) (words : ℕ → List ℕ) (job : Job) → IsNextPosition g words job Root Done
then_done g words job = record { left = refl; at = tt }

-- ---- something is left

pub some_left : (g : Course) (words : ℕ → List ℕ) (job : Job) (p : own.Position) → IsPosition g words job p → (rest : List Change) × (left g words job p ≡ first_left g words job p ∷ rest)
some_left g words job (Object nth word) h =
    (drop (word + 1) (object_writes g words (drop nth job.objects.items)) ++ (page_writes g job.pages.items ++ root_writes g), (next_behind nth word h))
  where
    next_behind : (nth word : ℕ) → IsPosition g words job (Object nth word) → left g words job (Object nth word) ≡ first_left g words job (Object nth word) ∷ (drop (word + 1) (object_writes g words (drop nth job.objects.items)) ++ (page_writes g job.pages.items ++ root_writes g))
    next_behind nth word h = behind (object_write g words (get_or job.objects.items nth no_object).0 word) (drop word (object_writes g words (drop nth job.objects.items))) (drop (word + 1) (object_writes g words (drop nth job.objects.items))) (page_writes g job.pages.items ++ root_writes g) (object_now g words job.objects.items nth word h.0 h.1)
some_left g words job (Page nth word) h =
    (drop (word + 1) (page_writes g (drop nth job.pages.items)) ++ root_writes g, behind (page_write g (get_or job.pages.items nth 0) word) (drop word (page_writes g (drop nth job.pages.items))) (drop (word + 1) (page_writes g (drop nth job.pages.items))) (root_writes g) (page_now g job.pages.items nth word h.0 h.1))
some_left g words job Root h = ([], refl)
some_left g words job Done h = absurd h

pub at_from : (g : Course) (words : ℕ → List ℕ) (job : Job) (p : own.Position) → IsLeftFrom g words job p → (p ≡ Done → ⊥) → IsPosition g words job p
at_from g words job (Object nth word) h n = h
at_from g words job (Page nth word) h n = h
at_from g words job Root h n = tt
at_from g words job Done h n = n refl

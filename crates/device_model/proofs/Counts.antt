-- How many writes a commit has.
use Rattle.std.proofs.Common.{◌≡◌, ℕ, zero, suc, ◌+◌, ◌-◌, ◌*◌, ◌≤◌, Bool, true, false, cond, eqb, leb, not, ◌||◌, ◌&&◌, List, [], ◌∷◌, ◌++◌, length, sum_by, arith, ap, ap₂, ◌∙◌, refl}
use Rattle.std.specs.List.{AllByRecursion}
use Rattle.std.proofs.lemmas.Bool.{leb-true}
use Rattle.std.proofs.lemmas.List.{length-append}
use Rattle.std.proofs.lemmas.List.Sums.{sum_by-cons}
use Rattle.kernel_model.specs.Effects.{Write}
use Rattle.kernel_model.specs.Sizes.{Sizes}
use Rattle.kernel_model.specs.Items.{FinishRecord}
use Rattle.kernel_model.specs.Replay.{DeviceState, TaskRec}
use Rattle.kernel_model.specs.OpenTasks.{children, open_tasks, others_than}
use Rattle.kernel_model.specs.Fit.{IsSizes, IsWrite}
use Rattle.kernel_model.specs.Turns as turns
use Rattle.set_model.specs.Sets.{TaskSet, object_at}
use Rattle.set_model.specs.Limits.{IsObject, IsTaskSet}
use Rattle.set_model.specs.Numbers.{boot_turns, index_words, sizes_of}
use Rattle.set_model.proofs.ForCallers.{all_at}
use Rattle.device_model.specs.Words.{Words, written_at, words_from}
use Rattle.device_model.specs.Layouts.{Layout, Plain, boot_turns_of, layout_of, copy_place}
use Rattle.device_model.specs.IndexWords.{Index, index_word}
use Rattle.device_model.specs.Decoding.{Held}
use Rattle.device_model.specs.Commits.{Commit, commit_body, commit_of, commit_turns, commit_writes, count_changed, differs, is_changed, names_slot, next_root, object_changes, page_change, page_changes, words_written}
use Rattle.device_model.specs.Counting.{index_writes_on, is_page_written, record_word, sizes_on}
use Rattle.device_model.proofs.IndexLists.{word-task}
use Rattle.device_model.proofs.PlainLaws.{plain_need}
use Rattle.device_model.proofs.Writes.{length-words_from, length-written}
use Rattle.device_model.proofs.SlotWrites.{length-changes}

length-pages : (l : Layout) (root : ℕ) (x : Index) (changed : ℕ → Bool) (page n : ℕ) → length (page_changes l root x changed page n) ≡ count_changed changed page n * l.page_words
length-pages l root x changed page zero = omega arith
length-pages l root x changed page (suc n) = by (changed page) (length-pages l root x changed (page + 1) n)
  where
    by : (b : Bool) → length (page_changes l root x changed (page + 1) n) ≡ count_changed changed (page + 1) n * l.page_words
        → length (cond b (page_change l root x page) [] ++ page_changes l root x changed (page + 1) n) ≡ (cond b 1 0 + count_changed changed (page + 1) n) * l.page_words
    by false e = omega (arith, e)
    by true e =
        let p : ℕ = copy_place l page (1 - l.copy root page) 0 in
        let ws : List ℕ = words_from (index_word x) (page * l.page_words) l.page_words in
        omega (arith, e, length-append (written_at p ws) (page_changes l root x changed (page + 1) n), length-written p ws, length-words_from (index_word x) (page * l.page_words) l.page_words)

pub length-commit : (l : Layout) (set : TaskSet) (h : Held) (c : Commit) → length (commit_writes l set h c) ≡ commit_turns l set h c
unfolding commit_writes
length-commit l set h c = omega (
  arith,
  length-append (commit_body l set h c) ((l.root, next_root l set h c) ∷ []),
  length-append (object_changes l set c.after.slots c.writes) (page_changes l h.root c.after (is_changed l set h.index c) 0 l.pages),
  length-changes l set c.after.slots c.writes,
  length-pages l h.root c.after (is_changed l set h.index c) 0 l.pages,
)

sizes : (set : TaskSet) (ws : List Write) → AllByRecursion (IsWrite (sizes_of set)) ws → words_written ws ≡ sum_by (λ w. (sizes_of set).size w.object) ws
sizes set [] h = refl
sizes set (w ∷ ws) h = let f = h.0 in omega (arith, f.words, sizes set ws h.1, sum_by-cons (λ (w : Write). (sizes_of set).size w.object) w ws)

-- in format 1 as many as the kernel's model counts
pub plain_turns : (set : TaskSet) (h : Held) (i : FinishRecord) (slots : List ℕ) (base : DeviceState) (history : List FinishRecord) → AllByRecursion (IsWrite (sizes_of set)) i.run.writes → commit_turns (layout_of Plain set) set h (commit_of h i slots) ≡ turns.commit_writes (sizes_of set) base history i
plain_turns set h i slots base history w = omega (arith, sizes set i.run.writes w)

-- whether words differ rests on those from a number on
differs-same : (low : ℕ) (v w x y : Words) → ((i : ℕ) → low ≤ i → v i ≡ x i) → ((i : ℕ) → low ≤ i → w i ≡ y i) → (i n : ℕ) → differs low v w i n ≡ differs low x y i n
differs-same low v w x y e f i zero = refl
differs-same low v w x y e f i (suc n) = ap₂ (λ (a b : Bool). a || b) (one (leb low i) refl) (differs-same low v w x y e f (i + 1) n)
  where
    one : (b : Bool) → leb low i ≡ b → (b && not (eqb (v i) (w i))) ≡ (b && not (eqb (x i) (y i)))
    one false g = refl
    one true g = let l : low ≤ i = leb-true low i g in ap₂ (λ (a b : ℕ). not (eqb a b)) (e i l) (f i l)

-- the records of an index
record-same : (set : TaskSet) (x : Index) → length x.slots ≡ length set.objects → (i : ℕ) → 9 + length set.objects ≤ i → index_word x i ≡ record_word set x.tasks i
record-same set x s i l =
    let e : i ≡ 9 + length x.slots + (i - (9 + length set.objects)) = omega (arith, l, s) in
    ap (index_word x) e ∙ word-task x (i - (9 + length set.objects))

-- the same pages
page-same : (l : Layout) (set : TaskSet) (before : Index) (c : Commit) → length before.slots ≡ length set.objects → length c.after.slots ≡ length set.objects → (page : ℕ) → is_changed l set before c page ≡ is_page_written l set before.tasks c.after.tasks c.writes page
page-same l set before c e f page =
    ap (λ b. eqb page 0 || (names_slot l c.writes page || b))
    (differs-same (9 + length set.objects) (index_word before) (index_word c.after) (record_word set before.tasks) (record_word set c.after.tasks) (record-same set before e) (record-same set c.after f) (page * l.page_words) l.page_words)

count-same : (f g : ℕ → Bool) → ((page : ℕ) → f page ≡ g page) → (page n : ℕ) → count_changed f page n ≡ count_changed g page n
count-same f g e page zero = refl
count-same f g e page (suc n) = ap₂ (λ (b : Bool) (k : ℕ). cond b 1 0 + k) (e page) (count-same f g e (page + 1) n)

-- the commit of a finish has as many writes as the kernel's model counts
pub counted_turns : (l : Layout) (set : TaskSet) (h : Held) (i : FinishRecord) (slots : List ℕ) (base : DeviceState) (history : List FinishRecord) → h.index.tasks ≡ open_tasks base history → length h.index.slots ≡ length set.objects → length slots ≡ length set.objects →
    AllByRecursion (IsWrite (sizes_on l set)) i.run.writes → commit_turns l set h (commit_of h i slots) ≡ turns.commit_writes (sizes_on l set) base history i
counted_turns l set h i slots base history e f g w =
    let count = count-same (is_changed l set h.index (commit_of h i slots)) (is_page_written l set h.index.tasks (others_than i.task h.index.tasks ++ children i.first i.run.spawns) i.run.writes) (page-same l set h.index (commit_of h i slots) f g) 0 l.pages in
    let all : commit_turns l set h (commit_of h i slots) ≡ turned h.index.tasks = omega (arith, words l set i.run.writes w, ap (λ k. k * l.page_words) count) in
    all ∙ ap turned e
  where
    turned : List TaskRec → ℕ
    turned tasks = sum_by (λ w. (sizes_on l set).size w.object) i.run.writes + index_writes_on l set tasks (others_than i.task tasks ++ children i.first i.run.spawns) i.run.writes

    words : (l : Layout) (set : TaskSet) (ws : List Write) → AllByRecursion (IsWrite (sizes_on l set)) ws → words_written ws ≡ sum_by (λ w. (sizes_on l set).size w.object) ws
    words l set [] h = refl
    words l set (w ∷ ws) h = let f = h.0 in omega (arith, f.words, words l set ws h.1, sum_by-cons (λ (w : Write). (sizes_on l set).size w.object) w ws)

-- the numbers are fit
pub fit_on : (l : Layout) (set : TaskSet) → IsTaskSet set → IsSizes (sizes_on l set)
fit_on l set h = record { slots = λ o k. (all_at IsObject set.objects _ o h.each_object k).slots.0; index_writes = λ before after ws. omega arith; boot_turns = omega arith }

-- in format 1 they are those of the set
pub plain_sizes : (set : TaskSet) → sizes_on (layout_of Plain set) set ≡ sizes_of set
plain_sizes set =
    let turns : boot_turns_of (layout_of Plain set) ≡ boot_turns set = (plain_need set).1 in
    ap₂ sized (λ i before after ws. one before after ws i) turns
  where
    sized : (List TaskRec → List TaskRec → List Write → ℕ) → ℕ → Sizes
    sized writes turns = record { objects = length set.objects; size = λ o. (object_at set o).size; slots = λ o. (object_at set o).slots; programs = length set.programs; records = set.records; index_writes = writes; boot_turns = turns }

    one : (before after : List TaskRec) (ws : List Write) → index_writes_on (layout_of Plain set) set before after ws ≡ index_words set + 1
    one before after ws = omega arith

-- The words of an index, by number.
use Rattle.std.proofs.Common.{◌≡◌, ℕ, zero, suc, ◌+◌, ◌-◌, ◌*◌, ◌<◌, ◌≤◌, List, [], ◌∷◌, ◌++◌, length, get_or, slice_index, Option, Some, None, arith, refl, ap, sym, ◌∙◌}
use Rattle.std.proofs.lemmas.List.{get_or_append_left, get_or-append_right, get_or_past}
use Rattle.kernel_model.specs.Items.{Entry}
use Rattle.kernel_model.specs.Replay.{TaskRec}
use Rattle.device_model.specs.Words.{Words, words_from}
use Rattle.device_model.specs.IndexWords.{Index, index_word, words_of_index, with_last, task_words, read_tasks, read_index, read_last}
use Rattle.device_model.proofs.Writes.{words_from-same}

-- ---- tasks

pub length-task_words : (tasks : List TaskRec) → length (task_words tasks) ≡ 3 * length tasks
length-task_words [] = refl
length-task_words (t ∷ tasks) = omega (arith, length-task_words tasks)

pub no_task : TaskRec
no_task = record { id = 0; program = 0; arg = 0 }

-- the three words of a task
pub task_word : (tasks : List TaskRec) (r : ℕ) → r < length tasks →
    (slice_index (task_words tasks) (3 * r) ≡ (get_or tasks r no_task).id) × (slice_index (task_words tasks) (3 * r + 1) ≡ (get_or tasks r no_task).program) × (slice_index (task_words tasks) (3 * r + 2) ≡ (get_or tasks r no_task).arg)
task_word [] r l = absurd (omega arith)
task_word (t ∷ tasks) zero l = (refl, refl, refl)
task_word (t ∷ tasks) (suc r) l =
    let h = task_word tasks r (omega arith) in
    let a : 3 * suc r ≡ suc (suc (suc (3 * r))) = omega arith in
    let b : 3 * suc r + 1 ≡ suc (suc (suc (3 * r + 1))) = omega arith in
    let c : 3 * suc r + 2 ≡ suc (suc (suc (3 * r + 2))) = omega arith in
    (ap (slice_index (task_words (t ∷ tasks))) a ∙ h.0, ap (slice_index (task_words (t ∷ tasks))) b ∙ h.1, ap (slice_index (task_words (t ∷ tasks))) c ∙ h.2)

-- ---- the index

-- the first eight words
abbrev pub front : ℕ → ℕ → ℕ → Option Entry → List ℕ → ℕ → ℕ
front clock number next last rest = slice_index (clock ∷ number ∷ next ∷ with_last last rest)

pub with_last-count : (last : Option Entry) (rest : List ℕ) (i : ℕ) → slice_index (with_last last rest) (5 + i) ≡ slice_index rest i
with_last-count None rest i = let e : 5 + i ≡ suc (suc (suc (suc (suc i)))) = omega arith in ap (slice_index (with_last None rest)) e
with_last-count (Some x) rest i = let e : 5 + i ≡ suc (suc (suc (suc (suc i)))) = omega arith in ap (slice_index (with_last (Some x) rest)) e

pub length-with_last : (last : Option Entry) (rest : List ℕ) → length (with_last last rest) ≡ 5 + length rest
length-with_last None rest = omega arith
length-with_last (Some x) rest = omega arith

behind : (x : Index) (i : ℕ) → index_word x (8 + i) ≡ slice_index (length x.tasks ∷ (x.slots ++ task_words x.tasks)) i
unfolding index_word
behind x i = let e : 8 + i ≡ suc (suc (suc (5 + i))) = omega arith in ap (slice_index (words_of_index x)) e ∙ with_last-count x.last (length x.tasks ∷ (x.slots ++ task_words x.tasks)) i

pub word-count : (x : Index) → index_word x 8 ≡ length x.tasks
word-count x = behind x 0

lists : (x : Index) (i : ℕ) → index_word x (9 + i) ≡ slice_index (x.slots ++ task_words x.tasks) i
lists x i = let e : 9 + i ≡ 8 + suc i = omega arith in ap (index_word x) e ∙ behind x (suc i)

pub word-slot : (x : Index) (o : ℕ) → o < length x.slots → index_word x (9 + o) ≡ slice_index x.slots o
word-slot x o l = lists x o ∙ get_or_append_left x.slots (task_words x.tasks) 0 o l

pub word-task : (x : Index) (k : ℕ) → index_word x (9 + length x.slots + k) ≡ slice_index (task_words x.tasks) k
word-task x k =
    let e : 9 + length x.slots + k ≡ 9 + (length x.slots + k) = omega arith in
    let f : length x.slots + k - length x.slots ≡ k = omega arith in
    ap (index_word x) e ∙ lists x (length x.slots + k) ∙ get_or-append_right x.slots (task_words x.tasks) (length x.slots) (length x.slots + k) 0 refl (omega arith) ∙ ap (slice_index (task_words x.tasks)) f

-- behind the last task all is 0
pub word-later : (x : Index) (k : ℕ) → 3 * length x.tasks ≤ k → index_word x (9 + length x.slots + k) ≡ 0
word-later x k l = word-task x k ∙ get_or_past (task_words x.tasks) k 0 (omega (arith, length-task_words x.tasks, l))

-- ---- reading rests on the words

pub read_tasks-same : (v w : Words) (i n : ℕ) → ((k : ℕ) → k < 3 * n → v (i + k) ≡ w (i + k)) → read_tasks v i n ≡ read_tasks w i n
read_tasks-same v w i zero h = refl
read_tasks-same v w i (suc n) h =
    let a : v i ≡ w i = let e : i ≡ i + 0 = omega arith in ap v e ∙ h 0 (omega arith) ∙ ap w (sym e) in
    rw (a, h 1 (omega arith), h 2 (omega arith), read_tasks-same v w (i + 3) n (λ k l. let e : i + 3 + k ≡ i + (3 + k) = omega arith in ap v e ∙ h (3 + k) (omega arith) ∙ ap w (sym e))) refl

pub read_index-same : (n : ℕ) (v w : Words) → ((i : ℕ) → i < 9 + n + 3 * v 8 → v i ≡ w i) → read_index n v ≡ read_index n w
unfolding read_index
read_index-same n v w h = cc (h 0 (omega arith), h 1 (omega arith), h 2 (omega arith), last, slots, tasks)
  where
    last : read_last v ≡ read_last w
    last = rw (h 1 (omega arith), h 3 (omega arith), h 4 (omega arith), h 5 (omega arith), h 6 (omega arith), h 7 (omega arith)) refl

    slots : words_from v 9 n ≡ words_from w 9 n
    slots = words_from-same v w 9 9 n (λ i l. h (9 + i) (omega arith))

    tasks : read_tasks v (9 + n) (v 8) ≡ read_tasks w (9 + n) (w 8)
    tasks = read_tasks-same v w (9 + n) (v 8) (λ k l. h (9 + n + k) (omega arith)) ∙ ap (read_tasks w (9 + n)) (h 8 (omega arith))

-- the words of what was read
pub length-read_tasks : (w : Words) (i n : ℕ) → length (read_tasks w i n) ≡ n
length-read_tasks w i zero = refl
length-read_tasks w i (suc n) = ap suc (length-read_tasks w (i + 3) n)

pub read_task_word : (w : Words) (i n k : ℕ) → k < 3 * n → slice_index (task_words (read_tasks w i n)) k ≡ w (i + k)
read_task_word w i zero k l = absurd (omega arith)
read_task_word w i (suc n) zero l = let e : i ≡ i + 0 = omega arith in ap w e
read_task_word w i (suc n) (suc zero) l = refl
read_task_word w i (suc n) (suc (suc zero)) l = refl
read_task_word w i (suc n) (suc (suc (suc k))) l = let e : i + 3 + k ≡ i + suc (suc (suc k)) = omega arith in read_task_word w (i + 3) n k (omega arith) ∙ ap w e

-- a list of tasks, by its words
pub read_tasks-are : (w : Words) (i : ℕ) (tasks : List TaskRec) → ((k : ℕ) → k < 3 * length tasks → w (i + k) ≡ slice_index (task_words tasks) k) → read_tasks w i (length tasks) ≡ tasks
read_tasks-are w i [] h = refl
read_tasks-are w i (t ∷ tasks) h =
    let a : w i ≡ t.id = let e : i ≡ i + 0 = omega arith in ap w e ∙ h 0 (omega arith) in
    let b : w (i + 1) ≡ t.program = h 1 (omega arith) in
    let c : w (i + 2) ≡ t.arg = h 2 (omega arith) in
    rw (a, b, c, read_tasks-are w (i + 3) tasks (λ k l. let e : i + 3 + k ≡ i + suc (suc (suc k)) = omega arith in ap w e ∙ h (suc (suc (suc k))) (omega arith))) refl

pub word-next : (x : Index) → index_word x 2 ≡ x.next
unfolding index_word
word-next x = refl

-- An index is read as it was written, and words without a fault are those of the index that is read.
use Rattle.std.proofs.Common.{◌≡◌, ◌≢◌, ℕ, zero, suc, ◌+◌, ◌-◌, ◌*◌, ◌/◌, ◌%◌, ◌<◌, ◌≤◌, Bool, false, not, cond, eqb, ◌||◌, ◌&&◌, nat_lt, nat_le, List, [], ◌∷◌, ◌++◌, length, Option, Some, None, arith, refl, ap, sym, ◌∙◌, subst}
use Rattle.std.specs.List.{AllByRecursion}
use Rattle.std.proofs.lemmas.Bool.{eq-eqb, ne_eqb, le-ltb, lt-ltb, lt-leb, le-leb, ltb-false, leb-false, eqb-false, or_parts}
use Rattle.kernel_model.specs.Effects.{Outcome, Exit, Trap}
use Rattle.kernel_model.specs.Items.{Entry}
use Rattle.kernel_model.specs.Replay.{TaskRec}
use Rattle.kernel_model.specs.Serial.{InIdOrder}
use Rattle.kernel_model.specs.Fit.{IsLast, IsOutcome}
use Rattle.set_model.specs.Sets.{TaskSet, object_at}
use Rattle.set_model.specs.Numbers.{index_words}
use Rattle.device_model.specs.Words.{Words, words_from}
use Rattle.device_model.specs.IndexWords.{Index, base_of, index_word, task_words, trap_word, exit_word, outcome_of, is_faulty, is_faulty_record, read_index, read_last, read_tasks}
use Rattle.device_model.proofs.Writes.{words_are}
use Rattle.device_model.proofs.IndexLists.{front, word-count, word-slot, word-task, read_tasks-are, word-next}
use Rattle.device_model.proofs.Tests.{from-not_eq}

-- ---- what is written is read

outcome_back : (o : Outcome) → IsOutcome o → outcome_of (trap_word o) (exit_word o) ≡ o
outcome_back (Exit code) h = refl
outcome_back (Trap cause) h = rw (ne_eqb cause 0 (λ z. let p = h.0 in omega arith)) refl

entry_is : (e : Entry) (number : ℕ) (o : Outcome) → e.number ≡ number → o ≡ e.outcome → record { number = number; task = e.task; point = e.point; first = e.first; outcome = o } ≡ e
entry_is e number o p q = rw (sym p, q) refl

last_back : (x : Index) (rest : List ℕ) (last : Option Entry) → IsLast (base_of x []) last → read_last (front x.clock x.number x.next last rest) ≡ last
last_back x rest None h = rw (eq-eqb x.number 0 h) refl
last_back x rest (Some e) h = rw (ne_eqb x.number 0 (λ z. let c = h.counted in omega arith)) (ap Some (entry_is e x.number (outcome_of (trap_word e.outcome) (exit_word e.outcome)) h.number (outcome_back e.outcome h.outcome)))

index_is : (x : Index) (last : Option Entry) (slots : List ℕ) (tasks : List TaskRec) → last ≡ x.last → slots ≡ x.slots → tasks ≡ x.tasks → record { clock = x.clock; number = x.number; next = x.next; last = last; slots = slots; tasks = tasks } ≡ x
index_is x last slots tasks p q r = rw (p, q, r) refl

slots_back : (x : Index) (n : ℕ) → length x.slots ≡ n → words_from (index_word x) 9 n ≡ x.slots
slots_back x n l = ap (words_from (index_word x) 9) (sym l) ∙ words_are (index_word x) 9 x.slots (λ i m. word-slot x i m)

tasks_back : (x : Index) (n : ℕ) → length x.slots ≡ n → read_tasks (index_word x) (9 + n) (index_word x 8) ≡ x.tasks
tasks_back x n l =
    ap (λ (m : ℕ). read_tasks (index_word x) (9 + m) (index_word x 8)) (sym l)
    ∙ ap (read_tasks (index_word x) (9 + length x.slots)) (word-count x)
    ∙ read_tasks-are (index_word x) (9 + length x.slots) x.tasks (λ k m. word-task x k)

last_read : (x : Index) → IsLast (base_of x []) x.last → read_last (index_word x) ≡ x.last
unfolding index_word
last_read x h = last_back x (length x.tasks ∷ (x.slots ++ task_words x.tasks)) x.last h

pub read_back : (n : ℕ) (x : Index) → length x.slots ≡ n → IsLast (base_of x []) x.last → read_index n (index_word x) ≡ x
unfolding read_index index_word
read_back n x l h = index_is x (read_last (index_word x)) (words_from (index_word x) 9 n) (read_tasks (index_word x) (9 + n) (index_word x 8)) (last_read x h) (slots_back x n l) (tasks_back x n l)

index_parts : (x : Index) (clock number next : ℕ) (last : Option Entry) (slots : List ℕ) (tasks : List TaskRec) → clock ≡ x.clock → number ≡ x.number → next ≡ x.next → last ≡ x.last → slots ≡ x.slots → tasks ≡ x.tasks
    → record { clock = clock; number = number; next = next; last = last; slots = slots; tasks = tasks } ≡ x
index_parts x clock number next last slots tasks a b c d e f = rw (a, b, c, d, e, f) refl

word_0 : (x : Index) → index_word x 0 ≡ x.clock
unfolding index_word
word_0 x = refl

word_1 : (x : Index) → index_word x 1 ≡ x.number
unfolding index_word
word_1 x = refl

index_told : (n : ℕ) (x : Index) (w : Words) → length x.slots ≡ n → read_last w ≡ x.last → ((i : ℕ) → i < 9 + n + 3 * length x.tasks → w i ≡ index_word x i) → read_index n w ≡ x
unfolding read_index
index_told n x w l h f = index_parts x (w 0) (w 1) (w 2) (read_last w) (words_from w 9 n) (read_tasks w (9 + n) (w 8)) (f 0 (omega arith) ∙ word_0 x) (f 1 (omega arith) ∙ word_1 x) (f 2 (omega arith) ∙ word-next x) h
    (ap (words_from w 9) (sym l) ∙ words_are w 9 x.slots (λ i m. f (9 + i) (omega arith) ∙ word-slot x i m))
    (ap (read_tasks w (9 + n)) (f 8 (omega arith) ∙ word-count x) ∙ read_tasks-are w (9 + n) x.tasks (λ k m. f (9 + n + k) (omega arith) ∙ ap (λ (j : ℕ). index_word x (9 + j + k)) (sym l) ∙ word-task x k))

pub words_tell : (set : TaskSet) (x : Index) (w : Words) → length x.slots ≡ length set.objects → length x.tasks ≤ set.records → read_last w ≡ x.last → ((i : ℕ) → i < index_words set → w i ≡ index_word x i) → read_index (length set.objects) w ≡ x
words_tell set x w l m h f = index_told (length set.objects) x w l h (λ i a. f i (omega arith))

-- ---- words without a fault

-- none of the first m words is faulty
abbrev pub AreSound : TaskSet → Words → ℕ → Type 0
AreSound set w m = (i : ℕ) → i < m → is_faulty set w i (w i) ≡ false

by_zero : (n word : ℕ) (rest : Bool) → n ≡ 0 → cond (eqb n 0) (not (eqb word 0)) rest ≡ false → word ≡ 0
by_zero n word rest z h = from-not_eq word 0 (rw (eq-eqb n 0 z) at h)

by_some : (n word : ℕ) (rest : Bool) → n ≢ 0 → cond (eqb n 0) (not (eqb word 0)) rest ≡ false → rest ≡ false
by_some n word rest z h = rw (ne_eqb n 0 z) at h

and_left : (trap word : ℕ) → (not (eqb trap 0) && not (eqb word 0)) ≡ false → trap ≢ 0 → word ≡ 0
and_left trap word h z = from-not_eq word 0 (rw (ne_eqb trap 0 z) at h)

pub clock_in : (set : TaskSet) (w : Words) (m : ℕ) → 9 ≤ m → AreSound set w m → w 0 ≤ w 1
unfolding is_faulty
clock_in set w m l h = ltb-false (w 1) (w 0) (h 1 (omega arith))

pub next_in : (set : TaskSet) (w : Words) (m : ℕ) → 9 ≤ m → AreSound set w m → 0 < w 2
unfolding is_faulty
next_in set w m l h = let n : w 2 ≢ 0 = eqb-false (w 2) 0 (h 2 (omega arith)) in pos (w 2) n
  where
    pos : (a : ℕ) → a ≢ 0 → 0 < a
    pos zero f = absurd (f refl)
    pos (suc a) f = omega arith

pub count_in : (set : TaskSet) (w : Words) (m : ℕ) → 9 ≤ m → AreSound set w m → w 8 ≤ set.records
unfolding is_faulty
count_in set w m l h = ltb-false set.records (w 8) (h 8 (omega arith))

-- no finish: all five words are 0
pub none_in : (set : TaskSet) (w : Words) (m : ℕ) → 9 ≤ m → AreSound set w m → w 1 ≡ 0 → (w 3 ≡ 0) × (w 4 ≡ 0) × (w 5 ≡ 0) × (w 6 ≡ 0) × (w 7 ≡ 0)
unfolding is_faulty
none_in set w m l h z = (by_zero (w 1) (w 3) _ z (h 3 (omega arith)), by_zero (w 1) (w 4) _ z (h 4 (omega arith)), by_zero (w 1) (w 5) _ z (h 5 (omega arith)), by_zero (w 1) (w 6) _ z (h 6 (omega arith)), by_zero (w 1) (w 7) _ z (h 7 (omega arith)))

-- a finish
pub record SomeIn (w : Words) : Type 0 where
  pub task : 0 < w 3
  pub older : w 3 < w 7
  pub first : w 7 ≤ w 2
  pub children : w 2 ≤ w 7 + 8
  pub point : w 4 ≤ w 0
  pub trap : w 5 ≤ 15
  pub exit : w 5 ≢ 0 → w 6 ≡ 0

pub positive : (a : ℕ) → a ≢ 0 → 0 < a
positive zero f = absurd (f refl)
positive (suc a) f = omega arith

pub some_in : (set : TaskSet) (w : Words) (m : ℕ) → 9 ≤ m → AreSound set w m → w 1 ≢ 0 → SomeIn w
unfolding is_faulty
some_in set w m l h z =
    let three = or_parts (eqb (w 3) 0) (nat_le (w 2) (w 3)) (by_some (w 1) (w 3) _ z (h 3 (omega arith))) in
    let seven = or_parts (nat_le (w 7) (w 3)) (nat_lt (w 2) (w 7) || nat_lt (w 7 + 8) (w 2)) (by_some (w 1) (w 7) _ z (h 7 (omega arith))) in
    let rest = or_parts (nat_lt (w 2) (w 7)) (nat_lt (w 7 + 8) (w 2)) seven.1 in
    record {
      task = positive (w 3) (eqb-false (w 3) 0 three.0);
      older = leb-false (w 7) (w 3) seven.0;
      first = ltb-false (w 2) (w 7) rest.0;
      children = ltb-false (w 7 + 8) (w 2) rest.1;
      point = ltb-false (w 0) (w 4) (by_some (w 1) (w 4) _ z (h 4 (omega arith)));
      trap = ltb-false 15 (w 5) (by_some (w 1) (w 5) _ z (h 5 (omega arith)));
      exit = and_left (w 5) (w 6) (by_some (w 1) (w 6) _ z (h 6 (omega arith)));
    }

pub slot_in : (set : TaskSet) (w : Words) (m : ℕ) → index_words set ≤ m → AreSound set w m → (o : ℕ) → o < length set.objects → w (9 + o) < (object_at set o).slots
unfolding is_faulty
slot_in set w m l h o a = at (w (9 + o)) (h (9 + o) (omega arith))
  where
    at : (word : ℕ) → is_faulty set w (9 + o) word ≡ false → word < (object_at set o).slots
    at word f = let e : 9 + o - 9 ≡ o = omega arith in leb-false (object_at set o).slots word (rw (le-ltb (9 + o) 9 (omega arith), lt-ltb (9 + o) (9 + length set.objects) (omega arith), e) at f)

-- word k of the records
record_in : (set : TaskSet) (w : Words) (m : ℕ) → index_words set ≤ m → AreSound set w m → (k : ℕ) → k < 3 * set.records
    → is_faulty_record (w 8) (w 2) (w (9 + length set.objects + k - 3)) (length set.programs) k (w (9 + length set.objects + k)) ≡ false
unfolding is_faulty
record_in set w m l h k a = at (w (9 + length set.objects + k)) (h (9 + length set.objects + k) (omega arith))
  where
    at : (word : ℕ) → is_faulty set w (9 + length set.objects + k) word ≡ false → is_faulty_record (w 8) (w 2) (w (9 + length set.objects + k - 3)) (length set.programs) k word ≡ false
    at word f =
        let e : 9 + length set.objects + k - (9 + length set.objects) ≡ k = omega arith in
        rw (le-ltb (9 + length set.objects + k) 9 (omega arith), le-ltb (9 + length set.objects + k) (9 + length set.objects) (omega arith), lt-ltb (9 + length set.objects + k) (9 + length set.objects + 3 * set.records) (omega arith), e) at f

pub padding_in : (set : TaskSet) (w : Words) (m : ℕ) → AreSound set w m → (i : ℕ) → index_words set ≤ i → i < m → w i ≡ 0
unfolding is_faulty
padding_in set w m h i l a = at (w i) (h i a)
  where
    at : (word : ℕ) → is_faulty set w i word ≡ false → word ≡ 0
    at word f = from-not_eq word 0 (rw (le-ltb i 9 (omega arith), le-ltb i (9 + length set.objects) (omega arith), le-ltb i (9 + length set.objects + 3 * set.records) (omega arith)) at f)

-- later records are 0
pub later_in : (set : TaskSet) (w : Words) (m : ℕ) → index_words set ≤ m → AreSound set w m → (k : ℕ) → k < 3 * set.records → 3 * w 8 ≤ k → w (9 + length set.objects + k) ≡ 0
later_in set w m l h k a b = at (w (9 + length set.objects + k)) (record_in set w m l h k a)
  where
    at : (word : ℕ) → is_faulty_record (w 8) (w 2) (w (9 + length set.objects + k - 3)) (length set.programs) k word ≡ false → word ≡ 0
    at word f = from-not_eq word 0 (rw (le-leb (w 8) (k / 3) (omega arith)) at f)

-- the id and the program of task r
id_test : (count next before programs k word r : ℕ) → k ≡ 3 * r → r < count → is_faulty_record count next before programs k word ≡ false → (0 < word) × (word < next) × (0 < r → before < word)
id_test count next before programs k word r e l h =
    let field : k % 3 ≡ 0 = omega arith in
    let row : k / 3 ≡ r = omega arith in
    let f : ((eqb word 0) || (nat_le next word || (nat_le 3 k && nat_le word before))) ≡ false = rw (row, lt-leb count r l, field) at h in
    let both = or_parts (eqb word 0) (nat_le next word || (nat_le 3 k && nat_le word before)) f in
    let more = or_parts (nat_le next word) (nat_le 3 k && nat_le word before) both.1 in
    (positive word (eqb-false word 0 both.0), leb-false next word more.0, λ p. let g : nat_le word before ≡ false = rw (le-leb 3 k (omega arith)) at (more.1) in leb-false word before g)

program_test : (count next before programs k word r : ℕ) → k ≡ 3 * r + 1 → r < count → is_faulty_record count next before programs k word ≡ false → word < programs
program_test count next before programs k word r e l h =
    let field : k % 3 ≡ 1 = omega arith in
    let row : k / 3 ≡ r = omega arith in
    let f : nat_le programs word ≡ false = rw (row, lt-leb count r l, field) at h in
    leb-false programs word f

pub id_in : (set : TaskSet) (w : Words) (m : ℕ) → index_words set ≤ m → AreSound set w m → (r : ℕ) → r < w 8 → (0 < w (9 + length set.objects + 3 * r)) × (w (9 + length set.objects + 3 * r) < w 2) × (0 < r → w (9 + length set.objects + 3 * r - 3) < w (9 + length set.objects + 3 * r))
id_in set w m l h r a = id_test (w 8) (w 2) (w (9 + length set.objects + 3 * r - 3)) (length set.programs) (3 * r) (w (9 + length set.objects + 3 * r)) r refl a (record_in set w m l h (3 * r) (let c = count_in set w m (omega arith) h in omega arith))

pub program_in : (set : TaskSet) (w : Words) (m : ℕ) → index_words set ≤ m → AreSound set w m → (r : ℕ) → r < w 8 → w (9 + length set.objects + 3 * r + 1) < length set.programs
program_in set w m l h r a =
    let e : 9 + length set.objects + 3 * r + 1 ≡ 9 + length set.objects + (3 * r + 1) = omega arith in
    rw e (program_test (w 8) (w 2) (w (9 + length set.objects + (3 * r + 1) - 3)) (length set.programs) (3 * r + 1) (w (9 + length set.objects + (3 * r + 1))) r refl a (record_in set w m l h (3 * r + 1) (let c = count_in set w m (omega arith) h in omega arith)))

-- ---- the tasks that are read

pub all_read : (P : TaskRec → Type 0) (w : Words) (i n : ℕ) → ((r : ℕ) → r < n → P (record { id = w (i + 3 * r); program = w (i + 3 * r + 1); arg = w (i + 3 * r + 2) })) → AllByRecursion P (read_tasks w i n)
all_read P w i zero h = tt
all_read P w i (suc n) h =
    let e : i + 3 * 0 ≡ i = omega arith in (
      subst (λ (j : ℕ). P (record { id = w j; program = w (j + 1); arg = w (j + 2) })) e (h 0 (omega arith)),
      all_read P w (i + 3) n (λ r l. let f : i + 3 * suc r ≡ i + 3 + 3 * r = omega arith in subst (λ (j : ℕ). P (record { id = w j; program = w (j + 1); arg = w (j + 2) })) f (h (suc r) (omega arith))),
    )

-- ids that rise one by one rise
rising : (w : Words) (i n : ℕ) → ((r : ℕ) → suc r < n → w (i + 3 * r) < w (i + 3 * suc r)) → (low : ℕ) → (0 < n → low < w i) → (r : ℕ) → r < n → low < w (i + 3 * r)
rising w i n h low f zero l = let e : i ≡ i + 3 * 0 = omega arith in subst (λ (j : ℕ). low < w j) e (f l)
rising w i n h low f (suc r) l = let a : low < w (i + 3 * r) = rising w i n h low f r (omega arith) in let b = h r l in omega (arith, a, b)

pub in_order : (w : Words) (i n : ℕ) → ((r : ℕ) → suc r < n → w (i + 3 * r) < w (i + 3 * suc r)) → InIdOrder (read_tasks w i n)
in_order w i zero h = tt
in_order w i (suc n) h = (
  all_read (λ u. w i < u.id) w (i + 3) n (rising w (i + 3) n more (w i) (λ l. first l)),
  in_order w (i + 3) n more,
)
  where
    more : (r : ℕ) → suc r < n → w (i + 3 + 3 * r) < w (i + 3 + 3 * suc r)
    more r l =
        let a : i + 3 + 3 * r ≡ i + 3 * suc r = omega arith in
        let b : i + 3 + 3 * suc r ≡ i + 3 * suc (suc r) = omega arith in
        rw (a, b) (h (suc r) (omega arith))

    first : 0 < n → w i < w (i + 3)
    first l =
        let a : i ≡ i + 3 * 0 = omega arith in
        let b : i + 3 ≡ i + 3 * 1 = omega arith in
        let c : w (i + 3 * 0) < w (i + 3 * 1) = h 0 (omega arith) in
        subst (λ (k : ℕ). w i < w k) (sym b) (subst (λ (k : ℕ). w k < w (i + 3 * 1)) (sym a) c)

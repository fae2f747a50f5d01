-- An index that a device may have has no faulty word.
use Rattle.std.proofs.Common.{◌≡◌, ℕ, zero, suc, ◌+◌, ◌-◌, ◌*◌, ◌/◌, ◌%◌, ◌<◌, ◌≤◌, ⊎_elim, Bool, true, false, not, cond, eqb, ◌||◌, ◌&&◌, nat_lt, nat_le, List, [], ◌∷◌, ◌++◌, length, get_or, slice_index, Option, Some, None, arith, refl, ap, ◌∙◌}
use Rattle.std.specs.List.{AllByRecursion}
use Rattle.std.proofs.lemmas.Bool.{cases_lt, eq-eqb, ne_eqb, le-ltb, lt-ltb, lt-leb, le-leb, or_from}
use Rattle.kernel_model.specs.Effects.{Outcome, Exit, Trap}
use Rattle.kernel_model.specs.Items.{Entry}
use Rattle.kernel_model.specs.Replay.{TaskRec}
use Rattle.kernel_model.specs.Serial.{InIdOrder}
use Rattle.kernel_model.specs.Fit.{IsLast, IsOutcome}
use Rattle.set_model.specs.Sets.{TaskSet, object_at}
use Rattle.set_model.proofs.ForCallers.{all_at}
use Rattle.device_model.specs.IndexWords.{Index, IsIndex, base_of, index_word, task_words, trap_word, exit_word, is_faulty, is_faulty_number, is_faulty_record}
use Rattle.device_model.proofs.IndexLists.{front, no_task, task_word, word-count, word-slot, word-task, word-later, word-next}
use Rattle.device_model.proofs.Tests.{not_eq-false, nine, five}

-- ---- the last finish

-- the test of such a word
abbrev tested : ℕ → (ℕ → ℕ) → ℕ → Bool
tested records w i = is_faulty_number records w i (w i)

trap-low : (o : Outcome) → IsOutcome o → trap_word o ≤ 15
trap-low (Exit code) h = omega arith
trap-low (Trap cause) h = h.1

one_of_two : (o : Outcome) → (not (eqb (trap_word o) 0) && not (eqb (exit_word o) 0)) ≡ false
one_of_two (Exit code) = refl
one_of_two (Trap cause) = by (eqb cause 0)
  where
    by : (b : Bool) → (not b && false) ≡ false
    by true = refl
    by false = refl

last_words-hold : (records : ℕ) (x : Index) (rest : List ℕ) (last : Option Entry) → IsLast (base_of x []) last → (i : ℕ) → 3 ≤ i → i < 8 → tested records (front x.clock x.number x.next last rest) i ≡ false
last_words-hold records x rest None h i a b = five (λ i. tested records (front x.clock x.number x.next None rest) i ≡ false) (at _) (at _) (at _) (at _) (at _) i a b
  where
    at : (rest : Bool) → cond (eqb x.number 0) false rest ≡ false
    at rest = rw (eq-eqb x.number 0 h) refl
last_words-hold records x rest (Some e) h i a b = five (λ i. tested records (front x.clock x.number x.next (Some e) rest) i ≡ false) three four' five' six seven i a b
  where
    n : eqb x.number 0 ≡ false
    n = ne_eqb x.number 0 (λ z. let c = h.counted in omega arith)

    three : cond (eqb x.number 0) (not (eqb e.task 0)) ((eqb e.task 0) || nat_le x.next e.task) ≡ false
    three = let p = h.task in let q = h.older in let r = h.first in rw n (or_from (eqb e.task 0) (nat_le x.next e.task) (ne_eqb e.task 0 (λ z. omega arith)) (lt-leb x.next e.task (omega arith)))

    four' : cond (eqb x.number 0) (not (eqb e.point 0)) (nat_lt x.clock e.point) ≡ false
    four' = rw n (le-ltb x.clock e.point h.point)

    five' : cond (eqb x.number 0) (not (eqb (trap_word e.outcome) 0)) (nat_lt 15 (trap_word e.outcome)) ≡ false
    five' = rw n (le-ltb 15 (trap_word e.outcome) (trap-low e.outcome h.outcome))

    six : cond (eqb x.number 0) (not (eqb (exit_word e.outcome) 0)) (not (eqb (trap_word e.outcome) 0) && not (eqb (exit_word e.outcome) 0)) ≡ false
    six = rw n (one_of_two e.outcome)

    seven : cond (eqb x.number 0) (not (eqb e.first 0)) (nat_le e.first e.task || (nat_lt x.next e.first || nat_lt (e.first + 8) x.next)) ≡ false
    seven = rw n (or_from (nat_le e.first e.task) _ (lt-leb e.first e.task h.older) (or_from (nat_lt x.next e.first) _ (le-ltb x.next e.first h.first) (le-ltb (e.first + 8) x.next h.children)))

numbers-hold : (set : TaskSet) (x : Index) → IsIndex set x → (i : ℕ) → i < 9 → is_faulty_number set.records (index_word x) i (index_word x i) ≡ false
unfolding index_word
numbers-hold set x h = nine (λ i. is_faulty_number set.records (index_word x) i (index_word x i) ≡ false)
    refl
    (le-ltb x.number x.clock h.clock)
    (ne_eqb x.next 0 (λ z. let n = h.next in omega arith))
    (last 3 (omega arith) (omega arith))
    (last 4 (omega arith) (omega arith))
    (last 5 (omega arith) (omega arith))
    (last 6 (omega arith) (omega arith))
    (last 7 (omega arith) (omega arith))
    (ap (nat_lt set.records) (word-count x) ∙ le-ltb set.records (length x.tasks) h.records)
  where
    last : (i : ℕ) → 3 ≤ i → i < 8 → tested set.records (front x.clock x.number x.next x.last (length x.tasks ∷ (x.slots ++ task_words x.tasks))) i ≡ false
    last = last_words-hold set.records x (length x.tasks ∷ (x.slots ++ task_words x.tasks)) x.last h.last

-- ---- the records

next_id_above : (tasks : List TaskRec) (r : ℕ) → InIdOrder tasks → suc r < length tasks → (get_or tasks r no_task).id < (get_or tasks (suc r) no_task).id
next_id_above [] r h l = absurd (omega arith)
next_id_above (t ∷ tasks) zero h l = all_at (λ u. t.id < u.id) tasks no_task 0 h.0 (omega arith)
next_id_above (t ∷ tasks) (suc r) h l = next_id_above tasks r h.1 (omega arith)

record_holds : (x : Index) (next programs k word before : ℕ) → InIdOrder x.tasks → AllByRecursion (λ t. 0 < t.id) x.tasks → AllByRecursion (λ t. t.id < next) x.tasks → AllByRecursion (λ t. t.program < programs) x.tasks
    → word ≡ slice_index (task_words x.tasks) k → (3 * length x.tasks ≤ k → word ≡ 0) → (3 ≤ k → before ≡ slice_index (task_words x.tasks) (k - 3))
    → is_faulty_record (length x.tasks) next before programs k word ≡ false
record_holds x next programs k word before order positive old known is later back = ⊎_elim here past (cases_lt (k / 3) (length x.tasks))
  where
    past : length x.tasks ≤ k / 3 → is_faulty_record (length x.tasks) next before programs k word ≡ false
    past p = rw (le-leb (length x.tasks) (k / 3) p) (not_eq-false word 0 (later (omega arith)))

    above : (r : ℕ) → k ≡ 3 * r → r < length x.tasks → (nat_le 3 k && nat_le word before) ≡ false
    above zero e l = let f : nat_le 3 k ≡ false = lt-leb 3 k (omega arith) in rw f refl
    above (suc r) e l =
        let b : before ≡ (get_or x.tasks r no_task).id = let f : k - 3 ≡ 3 * r = omega arith in back (omega arith) ∙ ap (slice_index (task_words x.tasks)) f ∙ (task_word x.tasks r (omega arith)).0 in
        let w : word ≡ (get_or x.tasks (suc r) no_task).id = is ∙ ap (slice_index (task_words x.tasks)) e ∙ (task_word x.tasks (suc r) l).0 in
        rw (le-leb 3 k (omega arith), w, b, lt-leb (get_or x.tasks (suc r) no_task).id (get_or x.tasks r no_task).id (next_id_above x.tasks r order l)) refl

    by_field : (f : ℕ) → f < 3 → k % 3 ≡ f → k / 3 < length x.tasks → is_faulty_record (length x.tasks) next before programs k word ≡ false
    by_field zero l e p =
        let at : k ≡ 3 * (k / 3) = omega arith in
        let w : word ≡ (get_or x.tasks (k / 3) no_task).id = is ∙ ap (slice_index (task_words x.tasks)) at ∙ (task_word x.tasks (k / 3) p).0 in
        let a : 0 < (get_or x.tasks (k / 3) no_task).id = all_at (λ t. 0 < t.id) x.tasks no_task (k / 3) positive p in
        let b : (get_or x.tasks (k / 3) no_task).id < next = all_at (λ t. t.id < next) x.tasks no_task (k / 3) old p in
        rw (lt-leb (length x.tasks) (k / 3) p, e) (or_from (eqb word 0) _ (ne_eqb word 0 (λ z. omega arith)) (or_from (nat_le next word) _ (lt-leb next word (omega arith)) (above (k / 3) at p)))
    by_field (suc zero) l e p =
        let at : k ≡ 3 * (k / 3) + 1 = omega arith in
        let w : word ≡ (get_or x.tasks (k / 3) no_task).program = is ∙ ap (slice_index (task_words x.tasks)) at ∙ (task_word x.tasks (k / 3) p).1 in
        let b : (get_or x.tasks (k / 3) no_task).program < programs = all_at (λ t. t.program < programs) x.tasks no_task (k / 3) known p in
        rw (lt-leb (length x.tasks) (k / 3) p, e) (lt-leb programs word (omega arith))
    by_field (suc (suc zero)) l e p = rw (lt-leb (length x.tasks) (k / 3) p, e) refl
    by_field (suc (suc (suc f))) l e p = absurd (omega arith)

    here : k / 3 < length x.tasks → is_faulty_record (length x.tasks) next before programs k word ≡ false
    here p = by_field (k % 3) (omega arith) refl p

-- ---- all words

pub index-holds : (set : TaskSet) (x : Index) → IsIndex set x → (i : ℕ) → is_faulty set (index_word x) i (index_word x i) ≡ false
unfolding is_faulty
index-holds set x h i = ⊎_elim number (λ a. ⊎_elim (slot a) (λ b. ⊎_elim (task b) (padding b) (cases_lt i (9 + length set.objects + 3 * set.records))) (cases_lt i (9 + length set.objects))) (cases_lt i 9)
  where
    number : i < 9 → is_faulty set (index_word x) i (index_word x i) ≡ false
    number l = rw (lt-ltb i 9 l) (numbers-hold set x h i l)

    slot : 9 ≤ i → i < 9 + length set.objects → is_faulty set (index_word x) i (index_word x i) ≡ false
    slot a l =
        let e : i ≡ 9 + (i - 9) = omega arith in
        let w : index_word x i ≡ slice_index x.slots (i - 9) = ap (index_word x) e ∙ word-slot x (i - 9) (omega (arith, h.slots)) in
        rw (le-ltb i 9 a, lt-ltb i (9 + length set.objects) l) (lt-leb (object_at set (i - 9)).slots (index_word x i) (omega (arith, w, h.named (i - 9) (omega arith))))

    is_task : (k : ℕ) → 9 + length set.objects + k ≡ 9 + length x.slots + k
    is_task k = omega (arith, h.slots)

    task : 9 + length set.objects ≤ i → i < 9 + length set.objects + 3 * set.records → is_faulty set (index_word x) i (index_word x i) ≡ false
    task a l =
        let k : ℕ = i - (9 + length set.objects) in
        let e : i ≡ 9 + length x.slots + k = omega (arith, h.slots) in
        let next : index_word x 2 ≡ x.next = word-next x in
        rw (le-ltb i 9 (omega arith), le-ltb i (9 + length set.objects) a, lt-ltb i (9 + length set.objects + 3 * set.records) l, word-count x, next)
        (record_holds x x.next (length set.programs) k (index_word x i) (index_word x (i - 3)) h.in_order h.positive h.old h.programs
        (ap (index_word x) e ∙ word-task x k) (λ m. ap (index_word x) e ∙ word-later x k m)
        (λ m. let f : i - 3 ≡ 9 + length x.slots + (k - 3) = omega (arith, h.slots) in ap (index_word x) f ∙ word-task x (k - 3)))

    padding : 9 + length set.objects ≤ i → 9 + length set.objects + 3 * set.records ≤ i → is_faulty set (index_word x) i (index_word x i) ≡ false
    padding a l =
        let k : ℕ = i - (9 + length set.objects) in
        let e : i ≡ 9 + length x.slots + k = omega (arith, h.slots) in
        let r = h.records in
        rw (le-ltb i 9 (omega arith), le-ltb i (9 + length set.objects) a, le-ltb i (9 + length set.objects + 3 * set.records) l) (not_eq-false (index_word x i) 0 (ap (index_word x) e ∙ word-later x k (omega arith)))

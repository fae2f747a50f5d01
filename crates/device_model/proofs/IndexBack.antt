-- Words without a fault are those of an index that a device may have.
use Rattle.std.proofs.Common.{◌≡◌, ◌≢◌, ℕ, zero, suc, ◌+◌, ◌-◌, ◌*◌, ◌<◌, ◌≤◌, ⊎_elim, false, eqb, List, [], ◌∷◌, ◌++◌, length, slice_index, arith, refl, ap, sym, ◌∙◌, subst}
use Rattle.std.proofs.lemmas.Bool.{cases_eq, cases_lt, eq-eqb, ne_eqb, le-ltb, lt-ltb}
use Rattle.kernel_model.specs.Fit.{IsLast, IsOutcome}
use Rattle.set_model.specs.Sets.{TaskSet}
use Rattle.set_model.specs.Numbers.{index_words}
use Rattle.device_model.specs.Words.{Words}
use Rattle.device_model.specs.IndexWords.{Index, IsIndex, base_of, index_word, task_words, trap_word, exit_word, outcome_of, is_faulty, read_index, read_last}
use Rattle.device_model.proofs.Writes.{length-words_from, word_from}
use Rattle.device_model.proofs.IndexLists.{front, word-count, word-slot, word-task, word-later, length-read_tasks, read_task_word}
use Rattle.device_model.proofs.IndexReading.{AreSound, clock_in, next_in, count_in, none_in, some_in, slot_in, later_in, padding_in, id_in, program_in, all_read, in_order, positive}
use Rattle.device_model.proofs.Tests.{nine}

-- ---- the last finish

nonzero : (n : ℕ) → eqb (suc n) 0 ≡ false
nonzero n = ne_eqb (suc n) 0 (λ e. omega arith)

trap_fits : (trap exit : ℕ) → trap ≤ 15 → IsOutcome (outcome_of trap exit)
trap_fits zero exit l = tt
trap_fits (suc trap) exit l = rw (nonzero trap) (omega arith, omega arith)

last_fits : (set : TaskSet) (w : Words) (m : ℕ) (x : Index) → 9 ≤ m → AreSound set w m → x.clock ≡ w 0 → x.number ≡ w 1 → x.next ≡ w 2 → IsLast (base_of x []) (read_last w)
last_fits set w m x l h clock number next = ⊎_elim none some (cases_eq (w 1) 0)
  where
    none : w 1 ≡ 0 → IsLast (base_of x []) (read_last w)
    none z = rw (eq-eqb (w 1) 0 z) (number ∙ z)

    some : w 1 ≢ 0 → IsLast (base_of x []) (read_last w)
    some z =
        let s = some_in set w m l h z in
        let a = s.task in let b = s.older in let c = s.first in let d = s.children in let e = s.point in
        rw (ne_eqb (w 1) 0 z) (record {
          number = sym number;
          counted = omega (arith, number, positive (w 1) z);
          task = a;
          older = b;
          first = omega (arith, next);
          children = omega (arith, next);
          point = omega (arith, clock);
          outcome = trap_fits (w 5) (w 6) s.trap;
        })

pub sound_index : (set : TaskSet) (w : Words) (m : ℕ) → index_words set ≤ m → AreSound set w m → IsIndex set (read_index (length set.objects) w)
unfolding read_index
sound_index set w m l h = record {
  clock = clock_in set w m (omega arith) h;
  next = next_in set w m (omega arith) h;
  last = last_fits set w m (read_index (length set.objects) w) (omega arith) h refl refl refl;
  slots = length-words_from w 9 (length set.objects);
  named = λ o a. rw (word_from w 9 (length set.objects) o a) (slot_in set w m l h o a);
  records = rw (length-read_tasks w (9 + length set.objects) (w 8)) (count_in set w m (omega arith) h);
  in_order = in_order w (9 + length set.objects) (w 8) (λ r a. let e : 9 + length set.objects + 3 * suc r - 3 ≡ 9 + length set.objects + 3 * r = omega arith in subst (λ (k : ℕ). w k < w (9 + length set.objects + 3 * suc r)) e ((id_in set w m l h (suc r) a).2 (omega arith)));
  positive = all_read (λ t. 0 < t.id) w (9 + length set.objects) (w 8) (λ r a. (id_in set w m l h r a).0);
  old = all_read (λ t. t.id < w 2) w (9 + length set.objects) (w 8) (λ r a. (id_in set w m l h r a).1);
  programs = all_read (λ t. t.program < length set.programs) w (9 + length set.objects) (w 8) (λ r a. program_in set w m l h r a);
}

-- ---- its words

trap_back : (trap exit : ℕ) → trap_word (outcome_of trap exit) ≡ trap
trap_back zero exit = refl
trap_back (suc trap) exit = rw (nonzero trap) refl

exit_back : (trap exit : ℕ) → (trap ≢ 0 → exit ≡ 0) → exit_word (outcome_of trap exit) ≡ exit
exit_back zero exit h = refl
exit_back (suc trap) exit h = rw (nonzero trap) (sym (h (λ e. omega arith)))

last_words : (set : TaskSet) (w : Words) (m : ℕ) (rest : List ℕ) → 9 ≤ m → AreSound set w m
    → (let f = front (w 0) (w 1) (w 2) (read_last w) rest in (f 3 ≡ w 3) × (f 4 ≡ w 4) × (f 5 ≡ w 5) × (f 6 ≡ w 6) × (f 7 ≡ w 7))
last_words set w m rest l h = ⊎_elim none some (cases_eq (w 1) 0)
  where
    none : w 1 ≡ 0 → (let f = front (w 0) (w 1) (w 2) (read_last w) rest in (f 3 ≡ w 3) × (f 4 ≡ w 4) × (f 5 ≡ w 5) × (f 6 ≡ w 6) × (f 7 ≡ w 7))
    none z = let n = none_in set w m l h z in rw (eq-eqb (w 1) 0 z) (sym n.0, sym n.1, sym n.2, sym n.3, sym n.4)

    some : w 1 ≢ 0 → (let f = front (w 0) (w 1) (w 2) (read_last w) rest in (f 3 ≡ w 3) × (f 4 ≡ w 4) × (f 5 ≡ w 5) × (f 6 ≡ w 6) × (f 7 ≡ w 7))
    some z = let s = some_in set w m l h z in rw (ne_eqb (w 1) 0 z) (refl, refl, trap_back (w 5) (w 6), exit_back (w 5) (w 6) s.exit, refl)

number_words : (set : TaskSet) (w : Words) (m : ℕ) → index_words set ≤ m → AreSound set w m → (i : ℕ) → i < 9 → index_word (read_index (length set.objects) w) i ≡ w i
unfolding index_word read_index
number_words set w m l h =
    let x : Index = read_index (length set.objects) w in
    let five = last_words set w m (length x.tasks ∷ (x.slots ++ task_words x.tasks)) (omega arith) h in
    nine (λ i. index_word x i ≡ w i) refl refl refl five.0 five.1 five.2 five.3 five.4 (word-count x ∙ length-read_tasks w (9 + length set.objects) (w 8))

slots_read : (n : ℕ) (w : Words) → length (read_index n w).slots ≡ n
unfolding read_index
slots_read n w = length-words_from w 9 n

slot_read : (n : ℕ) (w : Words) (o : ℕ) → o < n → slice_index (read_index n w).slots o ≡ w (9 + o)
unfolding read_index
slot_read n w o l = word_from w 9 n o l

count_read : (n : ℕ) (w : Words) → length (read_index n w).tasks ≡ w 8
unfolding read_index
count_read n w = length-read_tasks w (9 + n) (w 8)

task_read : (n : ℕ) (w : Words) (k : ℕ) → k < 3 * w 8 → slice_index (task_words (read_index n w).tasks) k ≡ w (9 + n + k)
unfolding read_index
task_read n w k l = read_task_word w (9 + n) (w 8) k l

pub sound_words : (set : TaskSet) (w : Words) (m : ℕ) → index_words set ≤ m → AreSound set w m → (i : ℕ) → i < m → index_word (read_index (length set.objects) w) i ≡ w i
sound_words set w m l h i a = ⊎_elim (number_words set w m l h i) (λ b. ⊎_elim (slot b) (λ c. ⊎_elim (task c) (zeros c) (cases_lt i (9 + n + 3 * w 8))) (cases_lt i (9 + n))) (cases_lt i 9)
  where
    n : ℕ
    n = length set.objects

    x : Index
    x = read_index n w

    slot : 9 ≤ i → i < 9 + n → index_word x i ≡ w i
    slot b c = let e : i ≡ 9 + (i - 9) = omega arith in ap (index_word x) e ∙ word-slot x (i - 9) (omega (arith, slots_read n w)) ∙ slot_read n w (i - 9) (omega arith) ∙ ap w (sym e)

    at : (k : ℕ) → 9 + n ≤ k → k ≡ 9 + length x.slots + (k - (9 + n))
    at k b = omega (arith, slots_read n w)

    task : 9 + n ≤ i → i < 9 + n + 3 * w 8 → index_word x i ≡ w i
    task b c =
        let e : 9 + n + (i - (9 + n)) ≡ i = omega arith in
        ap (index_word x) (at i b) ∙ word-task x (i - (9 + n)) ∙ task_read n w (i - (9 + n)) (omega arith) ∙ ap w e

    zeros : 9 + n ≤ i → 9 + n + 3 * w 8 ≤ i → index_word x i ≡ w i
    zeros b c =
        let e : 9 + n + (i - (9 + n)) ≡ i = omega arith in
        ap (index_word x) (at i b) ∙ word-later x (i - (9 + n)) (omega (arith, count_read n w))
        ∙ sym (⊎_elim (λ p. ap w (sym e) ∙ later_in set w m l h (i - (9 + n)) (omega arith) (omega arith)) (λ p. padding_in set w m h i p a) (cases_lt i (index_words set)))

-- what a word is judged by stands before it
pub fault-same : (set : TaskSet) (v w : Words) (i word : ℕ) → ((k : ℕ) → k < i → v k ≡ w k) → is_faulty set v i word ≡ is_faulty set w i word
unfolding is_faulty
fault-same set v w i word h = ⊎_elim (λ p. small i p h) (λ p. ⊎_elim (slot p) (record_part p) (cases_lt i (9 + length set.objects))) (cases_lt i 9)
  where
    small : (i : ℕ) → i < 9 → ((k : ℕ) → k < i → v k ≡ w k) → is_faulty set v i word ≡ is_faulty set w i word
    small = nine (λ i. ((k : ℕ) → k < i → v k ≡ w k) → is_faulty set v i word ≡ is_faulty set w i word) (λ h. refl)
        (λ h. rw (h 0 (omega arith)) refl)
        (λ h. refl)
        (λ h. rw (h 1 (omega arith), h 2 (omega arith)) refl)
        (λ h. rw (h 1 (omega arith), h 0 (omega arith)) refl)
        (λ h. rw (h 1 (omega arith)) refl)
        (λ h. rw (h 1 (omega arith), h 5 (omega arith)) refl)
        (λ h. rw (h 1 (omega arith), h 2 (omega arith), h 3 (omega arith)) refl)
        (λ h. refl)

    slot : 9 ≤ i → i < 9 + length set.objects → is_faulty set v i word ≡ is_faulty set w i word
    slot p q = rw (le-ltb i 9 p, lt-ltb i (9 + length set.objects) q) refl

    record_part : 9 ≤ i → 9 + length set.objects ≤ i → is_faulty set v i word ≡ is_faulty set w i word
    record_part p q = rw (le-ltb i 9 p, le-ltb i (9 + length set.objects) q, h 8 (omega arith), h 2 (omega arith), h (i - 3) (omega arith)) refl

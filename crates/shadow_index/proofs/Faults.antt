-- Which words are faulty, by their kinds.
use Rattle.std.proofs.Common.{◌≡◌, ℕ, ◌+◌, ◌-◌, ◌*◌, ◌<◌, ◌≤◌, ⊎_elim, Bool, true, false, not, eqb, nat_le, length, arith, refl, ap, sym, ◌∙◌}
use Rattle.std.proofs.lemmas.Bool.{cases_lt, le-ltb, lt-ltb, lt-leb}
use Rattle.set_model.specs.Sets.{TaskSet, object_at}
use Rattle.device_model.specs.Words.{Words}
use Rattle.device_model.specs.IndexWords.{is_faulty, is_faulty_number, is_faulty_record}
use Rattle.shadow_index.specs.declared.state.State.{State}
use Rattle.shadow_index.specs.States.{taken_word}
use Rattle.shadow_index.specs.Forms.{is_faulty_task, record_word, told_number}
use Rattle.shadow_index.proofs.ByKind.{taken_later, taken_number, word_record}

-- such a test rests on five words
number_rests : (records : ℕ) (v w : Words) (i word : ℕ) → v 0 ≡ w 0 → v 1 ≡ w 1 → v 2 ≡ w 2 → v 3 ≡ w 3 → v 5 ≡ w 5 → is_faulty_number records v i word ≡ is_faulty_number records w i word
number_rests records v w i word a b c d e = rw (a, b, c, d, e) refl

pub fault_number : (set : TaskSet) (s : State) (i word : ℕ) → i < 9 → is_faulty_number set.records (told_number s) i word ≡ is_faulty set (taken_word s) i word
unfolding is_faulty
fault_number set s i word l =
    number_rests set.records (told_number s) (taken_word s) i word (at 0 (omega arith)) (at 1 (omega arith)) (at 2 (omega arith)) (at 3 (omega arith)) (at 5 (omega arith))
    ∙ sym (here (taken_word s))
  where
    at : (k : ℕ) → k < 9 → told_number s k ≡ taken_word s k
    at k m = sym (taken_number s k m)

    here : (w : Words) → is_faulty set w i word ≡ is_faulty_number set.records w i word
    here w = rw (lt-ltb i 9 l) refl

pub fault_slot : (set : TaskSet) (w : Words) (i word : ℕ) → 9 ≤ i → i < 9 + length set.objects → is_faulty set w i word ≡ nat_le (object_at set (i - 9)).slots word
unfolding is_faulty
fault_slot set w i word l m = rw (le-ltb i 9 l, lt-ltb i (9 + length set.objects) m) refl

fault_record : (set : TaskSet) (w : Words) (i word : ℕ) → 9 + length set.objects ≤ i → i < 9 + length set.objects + 3 * set.records → is_faulty set w i word ≡ is_faulty_record (w 8) (w 2) (w (i - 3)) (length set.programs) (i - (9 + length set.objects)) word
unfolding is_faulty
fault_record set w i word l m = rw (le-ltb i 9 (omega arith), le-ltb i (9 + length set.objects) l, lt-ltb i (9 + length set.objects + 3 * set.records) m) refl

pub fault_padding : (set : TaskSet) (w : Words) (i word : ℕ) → 9 + length set.objects + 3 * set.records ≤ i → is_faulty set w i word ≡ not (eqb word 0)
unfolding is_faulty
fault_padding set w i word l = rw (le-ltb i 9 (omega arith), le-ltb i (9 + length set.objects) (omega arith), le-ltb i (9 + length set.objects + 3 * set.records) l) refl

-- the first record has none before it
first_alone : (count next a b programs k word : ℕ) → k < 3 → is_faulty_record count next a programs k word ≡ is_faulty_record count next b programs k word
first_alone count next a b programs k word l = rw (lt-leb 3 k l) refl

pub fault_task : (set : TaskSet) (s : State) (i word : ℕ) → length s.slots.items ≡ length set.objects → 9 + length set.objects ≤ i → i < 9 + length set.objects + 3 * set.records
    → is_faulty_task s.told s.next.0 s.tasks.items (length set.programs) (i - (9 + length set.objects)) word ≡ is_faulty set (taken_word s) i word
fault_task set s i word e l m = sym (fault_record set (taken_word s) i word l m ∙ counts ∙ ⊎_elim first later (cases_lt k 3))
  where
    k : ℕ
    k = i - (9 + length set.objects)

    counts : is_faulty_record (taken_word s 8) (taken_word s 2) (taken_word s (i - 3)) (length set.programs) k word ≡ is_faulty_record s.told s.next.0 (taken_word s (i - 3)) (length set.programs) k word
    counts = let a : taken_word s 8 ≡ s.told = taken_number s 8 (omega arith) in let b : taken_word s 2 ≡ s.next.0 = taken_number s 2 (omega arith) in rw (a, b) refl

    first : k < 3 → is_faulty_record s.told s.next.0 (taken_word s (i - 3)) (length set.programs) k word ≡ is_faulty_task s.told s.next.0 s.tasks.items (length set.programs) k word
    first h = first_alone s.told s.next.0 (taken_word s (i - 3)) (record_word s.tasks.items (k - 3)) (length set.programs) k word h

    later : 3 ≤ k → is_faulty_record s.told s.next.0 (taken_word s (i - 3)) (length set.programs) k word ≡ is_faulty_task s.told s.next.0 s.tasks.items (length set.programs) k word
    later h =
        let f : i - 3 - (9 + length set.objects) ≡ k - 3 = omega arith in
        let r : taken_word s (i - 3) ≡ record_word s.tasks.items (k - 3) = taken_later s (i - 3) (omega arith) ∙ word_record s (length set.objects) (i - 3) e (omega arith) ∙ ap (record_word s.tasks.items) f in
        rw r refl

pub not-not : (b : Bool) → not (not b) ≡ b
not-not true = refl
not-not false = refl

-- The index words by their kinds.
use Rattle.std.proofs.Common.{◌≡◌, ℕ, zero, suc, ◌+◌, ◌-◌, ◌*◌, ◌/◌, ◌%◌, ◌<◌, ◌≤◌, Bool, true, false, cond, eqb, List, [], ◌∷◌, ◌++◌, length, map, set, slice_index, Option, Some, None, arith, refl, ap, sym, ◌∙◌}
use Rattle.std.proofs.lemmas.Bool.{ne_eqb}
use Rattle.std.proofs.lemmas.List.{get_or-set_other, get_or-set_same, get_or_past, length-map}
use Rattle.nv_base.specs.declared.lines.Entry.{Entry}
use Rattle.nv_base.specs.declared.lines.TaskRec.{TaskRec}
use Rattle.set_model.specs.Views.{entry_if, task_of}
use Rattle.device_model.specs.IndexWords.{index_word, task_words}
use Rattle.device_model.proofs.ForCallers.{front, nine, word-count, word-slot, word-task}
use Rattle.shadow_index.specs.declared.state.State.{State}
use Rattle.shadow_index.specs.States.{index_of, taken_word, word_of}
use Rattle.shadow_index.specs.Forms.{last_words, no_task, number_word, record_word, task_word, told_number}

-- ---- the first nine

last_are : (clock number next i : ℕ) (last : Option Entry) (rest : List ℕ) (k : ℕ) → k < 5 → front clock number next (entry_if last) rest (3 + k) ≡ last_words last (3 + k)
last_are clock number next i None rest zero l = refl
last_are clock number next i None rest (suc zero) l = refl
last_are clock number next i None rest (suc (suc zero)) l = refl
last_are clock number next i None rest (suc (suc (suc zero))) l = refl
last_are clock number next i None rest (suc (suc (suc (suc zero)))) l = refl
last_are clock number next i None rest (suc (suc (suc (suc (suc k))))) l = absurd (omega arith)
last_are clock number next i (Some e) rest zero l = refl
last_are clock number next i (Some e) rest (suc zero) l = refl
last_are clock number next i (Some e) rest (suc (suc zero)) l = refl
last_are clock number next i (Some e) rest (suc (suc (suc zero))) l = refl
last_are clock number next i (Some e) rest (suc (suc (suc (suc zero)))) l = refl
last_are clock number next i (Some e) rest (suc (suc (suc (suc (suc k))))) l = absurd (omega arith)

pub word_number : (s : State) (i : ℕ) → i < 9 → word_of s i ≡ number_word s i
unfolding index_word
word_number s = nine (λ i. word_of s i ≡ number_word s i) refl refl refl (last 0 (omega arith)) (last 1 (omega arith)) (last 2 (omega arith)) (last 3 (omega arith)) (last 4 (omega arith)) (word-count (index_of s) ∙ length-map s.tasks.items task_of)
  where
    last : (k : ℕ) → k < 5 → word_of s (3 + k) ≡ last_words s.last (3 + k)
    last k l = last_are s.clock.0 s.number.0 s.next.0 k s.last (length (index_of s).tasks ∷ ((index_of s).slots ++ task_words (index_of s).tasks)) k l

-- ---- the slots

pub word_slot : (s : State) (n i : ℕ) → length s.slots.items ≡ n → 9 ≤ i → i < 9 + n → word_of s i ≡ slice_index s.slots.items (i - 9)
word_slot s n i e l m = let f : i ≡ 9 + (i - 9) = omega arith in ap (word_of s) f ∙ word-slot (index_of s) (i - 9) (omega (arith, e))

-- ---- the records

none_by : (a b : Bool) → cond {A = ℕ} a 0 (cond {A = ℕ} b 0 0) ≡ 0
none_by true b = refl
none_by false true = refl
none_by false false = refl

none_word : (f : ℕ) → task_word no_task f ≡ 0
none_word f = none_by (eqb f 0) (eqb f 1)

pub task_words_are : (tasks : List TaskRec) (k : ℕ) → slice_index (task_words (map task_of tasks)) k ≡ record_word tasks k
task_words_are [] k = sym (none_word (k % 3))
task_words_are (t ∷ tasks) zero = refl
task_words_are (t ∷ tasks) (suc zero) = refl
task_words_are (t ∷ tasks) (suc (suc zero)) = refl
task_words_are (t ∷ tasks) (suc (suc (suc k))) =
    let row : suc (suc (suc k)) / 3 ≡ suc (k / 3) = omega arith in
    let field : suc (suc (suc k)) % 3 ≡ k % 3 = omega arith in
    task_words_are tasks k ∙ sym (rw (row, field) refl)

pub word_record : (s : State) (n i : ℕ) → length s.slots.items ≡ n → 9 + n ≤ i → word_of s i ≡ record_word s.tasks.items (i - (9 + n))
word_record s n i e l =
    let f : i ≡ 9 + length s.slots.items + (i - (9 + n)) = omega (arith, e) in
    ap (word_of s) f ∙ word-task (index_of s) (i - (9 + n)) ∙ task_words_are s.tasks.items (i - (9 + n))

-- ---- the words that were taken

pub taken_later : (s : State) (k : ℕ) → 9 ≤ k → taken_word s k ≡ word_of s k
taken_later s k l = rw (ne_eqb k 8 (λ z. omega (arith, z))) refl

pub taken_number : (s : State) (k : ℕ) → k < 9 → taken_word s k ≡ told_number s k
taken_number s k l = ap (cond {A = ℕ} (eqb k 8) s.told) (word_number s k l)

-- ---- what stays

-- eight of nine numbers are fields, and how many tasks are there is asked of none
fields_alike : (s t : State) (k : ℕ) (b : Bool) → t.clock ≡ s.clock → t.number ≡ s.number → t.next ≡ s.next → t.last ≡ s.last → eqb k 8 ≡ b → t.told ≡ s.told → cond {A = ℕ} b t.told (number_word t k) ≡ cond {A = ℕ} b s.told (number_word s k)
fields_alike s t k true a b c d e f = f
fields_alike s t k false a b c d e f = rw (a, b, c, d, e) refl

told_alike : (s t : State) (k : ℕ) → t.clock ≡ s.clock → t.number ≡ s.number → t.next ≡ s.next → t.last ≡ s.last → t.told ≡ s.told → told_number t k ≡ told_number s k
told_alike s t k a b c d e = fields_alike s t k (eqb k 8) a b c d refl e

pub numbers_stay : (s t : State) (k : ℕ) → k < 9 → t.clock ≡ s.clock → t.number ≡ s.number → t.next ≡ s.next → t.last ≡ s.last → t.told ≡ s.told → taken_word t k ≡ taken_word s k
numbers_stay s t k l a b c d e = taken_number t k l ∙ told_alike s t k a b c d e ∙ sym (taken_number s k l)

pub slot_stays : (s t : State) (n k : ℕ) → length s.slots.items ≡ n → t.slots ≡ s.slots → 9 ≤ k → k < 9 + n → taken_word t k ≡ taken_word s k
slot_stays s t n k e h l m = taken_later t k l ∙ word_slot t n k (ap (λ v. length v.items) h ∙ e) l m ∙ ap (λ v. slice_index v.items (k - 9)) h ∙ sym (word_slot s n k e l m) ∙ sym (taken_later s k l)

pub other_slot_stays : (s t : State) (n i k word : ℕ) → length s.slots.items ≡ n → t.slots.items ≡ set s.slots.items (i - 9) word → length t.slots.items ≡ length s.slots.items → 9 ≤ k → k < i → i < 9 + n → taken_word t k ≡ taken_word s k
other_slot_stays s t n i k word e h c l m u =
    taken_later t k l ∙ word_slot t n k (c ∙ e) l (omega arith)
    ∙ ap (λ (xs : List ℕ). slice_index xs (k - 9)) h
    ∙ get_or-set_other s.slots.items (i - 9) (k - 9) word 0 (λ z. omega (arith, z))
    ∙ sym (word_slot s n k e l (omega arith)) ∙ sym (taken_later s k l)

pub slot_is_taken : (s t : State) (n i word : ℕ) → length s.slots.items ≡ n → t.slots.items ≡ set s.slots.items (i - 9) word → length t.slots.items ≡ length s.slots.items → 9 ≤ i → i < 9 + n → taken_word t i ≡ word
slot_is_taken s t n i word e h c l m =
    taken_later t i l ∙ word_slot t n i (c ∙ e) l m
    ∙ ap (λ (xs : List ℕ). slice_index xs (i - 9)) h
    ∙ get_or-set_same s.slots.items (i - 9) word 0 (omega (arith, e))

pub record_stays : (s t : State) (n i k : ℕ) → length s.slots.items ≡ n → t.slots ≡ s.slots → ((j : ℕ) → j < i - (9 + n) → record_word t.tasks.items j ≡ record_word s.tasks.items j) → 9 + n ≤ k → k < i → taken_word t k ≡ taken_word s k
record_stays s t n i k e h r l m = taken_later t k (omega arith) ∙ word_record t n k (ap (λ v. length v.items) h ∙ e) l ∙ r (k - (9 + n)) (omega arith) ∙ sym (word_record s n k e l) ∙ sym (taken_later s k (omega arith))

-- behind the records all is 0
pub padding_is_none : (s : State) (n records i : ℕ) → length s.slots.items ≡ n → length s.tasks.items ≤ records → 9 + n + 3 * records ≤ i → taken_word s i ≡ 0
padding_is_none s n records i e l m =
    let k : ℕ = i - (9 + n) in
    let row : length s.tasks.items ≤ k / 3 = omega arith in
    taken_later s i (omega arith) ∙ word_record s n i e (omega arith) ∙ ap (λ (t : TaskRec). task_word t (k % 3)) (get_or_past s.tasks.items (k / 3) no_task row) ∙ none_word (k % 3)

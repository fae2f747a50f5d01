-- The index words of a first state, and of a state that is moved.
use Rattle.std.proofs.Common.{◌≡◌, ℕ, zero, suc, ◌+◌, ◌-◌, ◌/◌, ◌%◌, ◌<◌, ◌≤◌, List, [], ◌∷◌, ◌++◌, length, map, get_or, slice_index, Option, Some, None, arith, refl, ap, sym, ◌∙◌}
use Rattle.std.proofs.lemmas.List.{get_or_past, length-map, length-replicate}
use Rattle.kernel_model.specs.Items.{Entry}
use Rattle.kernel_model.specs.OpenTasks.{children}
use Rattle.kernel_model.proofs.ForCallers.{length-children}
use Rattle.nv_base.specs.declared.lines.Spawn.{Spawn}
use Rattle.set_model.specs.Sets.{TaskSet}
use Rattle.set_model.specs.Views.{spawn_of}
use Rattle.device_model.specs.IndexWords.{Index, index_word, task_words}
use Rattle.device_model.specs.Formats.{first_slots, formatted_index}
use Rattle.device_model.specs.Migrations.{moved_index}
use Rattle.device_model.proofs.Fresh.{first_slot}
use Rattle.device_model.proofs.IndexLists.{front, length-task_words, word-count, word-slot, word-task}
use Rattle.device_model.proofs.Tests.{nine}
use Rattle.device_format.specs.Forms.{first_number_word, first_task_word}

-- ---- the records of a first state

look_at : (s : Spawn) (field p q : ℕ) → p ≡ q → first_task_word s p field ≡ first_task_word s q field
look_at s field p q e = ap (λ (r : ℕ). first_task_word s r field) e

child_at : (first : ℕ) (spawns : List Spawn) (none : Spawn) (k : ℕ) → k / 3 < length spawns → slice_index (task_words (children (first + 1) (map spawn_of spawns))) k ≡ first_task_word (get_or spawns (k / 3) none) (first + k / 3) (k % 3)
child_at first [] none k l = absurd (omega arith)
child_at first (s ∷ spawns) none zero l = let e : first + 1 ≡ first + 0 + 1 = omega arith in e
child_at first (s ∷ spawns) none (suc zero) l = refl
child_at first (s ∷ spawns) none (suc (suc zero)) l = refl
child_at first (s ∷ spawns) none (suc (suc (suc k))) l =
    let row : suc (suc (suc k)) / 3 ≡ suc (k / 3) = omega arith in
    let field : suc (suc (suc k)) % 3 ≡ k % 3 = omega arith in
    let id : first + 1 + k / 3 ≡ first + suc (k / 3) = omega arith in
    child_at (first + 1) spawns none k (omega (arith, row, l)) ∙ look_at (get_or spawns (k / 3) none) (k % 3) (first + 1 + k / 3) (first + suc (k / 3)) id
    ∙ sym (rw (row, field) refl)

pub first_record_is : (spawns : List Spawn) (none : Spawn) (k : ℕ) → k / 3 < length spawns → first_task_word (get_or spawns (k / 3) none) (k / 3) (k % 3) ≡ slice_index (task_words (children 1 (map spawn_of spawns))) k
first_record_is spawns none k l = let e : 0 + k / 3 ≡ k / 3 = omega arith in sym (child_at 0 spawns none k l ∙ look_at (get_or spawns (k / 3) none) (k % 3) (0 + k / 3) (k / 3) e)

pub no_record_is : (spawns : List Spawn) (k : ℕ) → length spawns ≤ k / 3 → 0 ≡ slice_index (task_words (children 1 (map spawn_of spawns))) k
no_record_is spawns k l =
    let tasks = children 1 (map spawn_of spawns) in
    sym (get_or_past (task_words tasks) k 0 (omega (arith, l, length-task_words tasks, length-children 1 (map spawn_of spawns), length-map spawns spawn_of)))

-- ---- all words of a first state

pub first_number_is : (set : TaskSet) (i : ℕ) → i < 9 → first_number_word (length set.tasks) i ≡ index_word (formatted_index set) i
unfolding index_word
first_number_is set = nine (λ i. first_number_word (length set.tasks) i ≡ index_word (formatted_index set) i) refl refl refl refl refl refl refl refl (sym (word-count (formatted_index set) ∙ length-children 1 set.tasks))

pub first_slot_is : (set : TaskSet) (x : Index) (i : ℕ) → x.slots ≡ first_slots set → 9 ≤ i → i < 9 + length set.objects → 0 ≡ index_word x i
first_slot_is set x i e l m =
    let f : i ≡ 9 + (i - 9) = omega arith in
    let long : length x.slots ≡ length set.objects = ap length e ∙ length-replicate (length set.objects) 0 in
    sym (ap (index_word x) f ∙ word-slot x (i - 9) (omega (arith, long)) ∙ ap (λ (s : List ℕ). slice_index s (i - 9)) e ∙ first_slot set (i - 9) (omega arith))

pub record_is : (set : TaskSet) (x : Index) (i n : ℕ) → length x.slots ≡ n → 9 + n ≤ i → slice_index (task_words x.tasks) (i - (9 + n)) ≡ index_word x i
record_is set x i n e l =
    let f : i ≡ 9 + length x.slots + (i - (9 + n)) = omega (arith, e) in
    sym (ap (index_word x) f ∙ word-task x (i - (9 + n)))

-- ---- a state that is moved

last_same : (clock number next : ℕ) (last : Option Entry) (a b : List ℕ) (k : ℕ) → k < 5 → front clock number next last a (3 + k) ≡ front clock number next last b (3 + k)
last_same clock number next None a b zero l = refl
last_same clock number next None a b (suc zero) l = refl
last_same clock number next None a b (suc (suc zero)) l = refl
last_same clock number next None a b (suc (suc (suc zero))) l = refl
last_same clock number next None a b (suc (suc (suc (suc zero)))) l = refl
last_same clock number next None a b (suc (suc (suc (suc (suc k))))) l = absurd (omega arith)
last_same clock number next (Some e) a b zero l = refl
last_same clock number next (Some e) a b (suc zero) l = refl
last_same clock number next (Some e) a b (suc (suc zero)) l = refl
last_same clock number next (Some e) a b (suc (suc (suc zero))) l = refl
last_same clock number next (Some e) a b (suc (suc (suc (suc zero)))) l = refl
last_same clock number next (Some e) a b (suc (suc (suc (suc (suc k))))) l = absurd (omega arith)

pub moved_number_is : (set : TaskSet) (x : Index) (i : ℕ) → i < 9 → index_word x i ≡ index_word (moved_index set x) i
unfolding index_word
moved_number_is set x = nine (λ i. index_word x i ≡ index_word (moved_index set x) i) refl refl refl (last 0 (omega arith)) (last 1 (omega arith)) (last 2 (omega arith)) (last 3 (omega arith)) (last 4 (omega arith)) (word-count x ∙ sym (word-count (moved_index set x)))
  where
    last : (k : ℕ) → k < 5 → index_word x (3 + k) ≡ index_word (moved_index set x) (3 + k)
    last k l = last_same x.clock x.number x.next x.last (length x.tasks ∷ (x.slots ++ task_words x.tasks)) (length x.tasks ∷ (first_slots set ++ task_words x.tasks)) k l

pub moved_record_is : (set : TaskSet) (x : Index) (i : ℕ) → length x.slots ≡ length set.objects → 9 + length set.objects ≤ i → index_word x i ≡ index_word (moved_index set x) i
moved_record_is set x i e l = sym (record_is set x i (length set.objects) e l) ∙ record_is set (moved_index set x) i (length set.objects) (length-replicate (length set.objects) 0) l

-- The words that a state has taken tell its index.
use Rattle.std.proofs.Common.{◌≡◌, ◌≢◌, ℕ, ◌<◌, ◌≤◌, ⊎_elim, length, Option, Some, None, arith, refl, ap, sym, ◌∙◌}
use Rattle.std.proofs.lemmas.Bool.{cases_eq, eq-eqb, ne_eqb}
use Rattle.std.proofs.lemmas.List.{length-map}
use Rattle.kernel_model.specs.Effects as model
use Rattle.kernel_model.specs.Items as items
use Rattle.nv_base.specs.declared.causes.TrapCause.{TrapCause}
use Rattle.nv_base.specs.declared.causes.TrapCause.TheVariants.{Illegal, Jump, Fetch, LoadAlign, Load, StoreAlign, Store, Break, Call, Object, CallAlign, CallRange, Program, Spawns, Fuel}
use Rattle.nv_base.specs.declared.lines.Outcome as own
use Rattle.nv_base.specs.declared.lines.Outcome.TheVariants as outcome
use Rattle.nv_base.specs.declared.lines.Entry.{Entry}
use Rattle.set_model.specs.Sets.{TaskSet}
use Rattle.set_model.specs.Numbers.{index_words}
use Rattle.set_model.specs.Views as views
use Rattle.device_model.specs.Words.{Words}
use Rattle.device_model.specs.IndexWords.{exit_word, outcome_of, read_index, read_last, trap_word}
use Rattle.device_model.proofs.ForCallers.{five, words_tell}
use Rattle.shadow_index.specs.declared.state.State.{State}
use Rattle.shadow_index.specs.States.{HasOpened, HasTaken, IsNumbered, index_of, records_begun, taken_word, word_of}
use Rattle.shadow_index.specs.Forms.{last_words, number_word}
use Rattle.shadow_index.proofs.ByKind.{word_number}

trap_back : (cause : TrapCause) → outcome_of (trap_word (views.trap_of cause)) 0 ≡ views.trap_of cause
trap_back Illegal = refl
trap_back Jump = refl
trap_back Fetch = refl
trap_back LoadAlign = refl
trap_back Load = refl
trap_back StoreAlign = refl
trap_back Store = refl
trap_back Break = refl
trap_back Call = refl
trap_back Object = refl
trap_back CallAlign = refl
trap_back CallRange = refl
trap_back Program = refl
trap_back Spawns = refl
trap_back Fuel = refl

outcome_back : (o : own.Outcome) → outcome_of (trap_word (views.outcome_of o)) (exit_word (views.outcome_of o)) ≡ views.outcome_of o
outcome_back (outcome.Exit code) = refl
outcome_back (outcome.Trap cause) = trap_back cause

entry_is : (e : items.Entry) (number task point first : ℕ) (o : model.Outcome) → number ≡ e.number → task ≡ e.task → point ≡ e.point → first ≡ e.first → o ≡ e.outcome
    → record { number = number; task = task; point = point; first = first; outcome = o } ≡ e
entry_is e number task point first o a b c d f = rw (a, b, c, d, f) refl

-- the last finish, by its six words
last_told : (number : ℕ) (last : Option Entry) (w : Words) → IsNumbered number last → w 1 ≡ number → ((i : ℕ) → 3 ≤ i → i < 8 → w i ≡ last_words last i) → read_last w ≡ views.entry_if last
last_told number None w h e f = rw (eq-eqb (w 1) 0 (e ∙ h)) refl
last_told number (Some x) w h e f =
    let positive : w 1 ≢ 0 = λ z. let p = h.0 in omega (arith, e, z) in
    let trap : w 5 ≡ trap_word (views.outcome_of x.outcome) = f 5 (omega arith) (omega arith) in
    let exit : w 6 ≡ exit_word (views.outcome_of x.outcome) = f 6 (omega arith) (omega arith) in
    let o : outcome_of (w 5) (w 6) ≡ views.outcome_of x.outcome = rw (trap, exit) (outcome_back x.outcome) in
    rw (ne_eqb (w 1) 0 positive) (ap Some (entry_is (views.entry_of x) (w 1) (w 3) (w 4) (w 7) (outcome_of (w 5) (w 6)) (e ∙ sym h.1) (f 3 (omega arith) (omega arith)) (f 4 (omega arith) (omega arith)) (f 7 (omega arith) (omega arith)) o))

pub taken_are_index : (set : TaskSet) (s : State) (w : Words) (m : ℕ) → index_words set ≤ m → HasTaken set m s → ((k : ℕ) → k < m → taken_word s k ≡ w k) → index_of s ≡ read_index (length set.objects) w
taken_are_index set s w m l h f = sym (words_tell set (index_of s) w h.room.slots tasks last (λ i a. sym (same i ∙ f i (omega (arith, a, l)))))
  where
    opened : HasOpened set.records (records_begun (length set.objects) m) s
    opened = h.tasks (omega (arith, l))

    -- all records have begun
    whole : length s.tasks.items ≡ s.told
    whole = let few = opened.few in let e = opened.tasks in omega (arith, few, e, l)

    same : (i : ℕ) → word_of s i ≡ taken_word s i
    same i = ⊎_elim (λ (e : i ≡ 8). rw e (word_number s 8 (omega arith) ∙ whole)) (λ n. rw (ne_eqb i 8 n) refl) (cases_eq i 8)

    tasks : length (index_of s).tasks ≤ set.records
    tasks = let few = opened.few in omega (arith, whole, few, length-map s.tasks.items views.task_of)

    word : (i : ℕ) → i < 9 → w i ≡ number_word s i
    word i a = sym (f i (omega (arith, a, l))) ∙ sym (same i) ∙ word_number s i a

    at : (i : ℕ) → 3 ≤ i → i < 8 → number_word s i ≡ last_words s.last i
    at = five (λ i. number_word s i ≡ last_words s.last i) refl refl refl refl refl

    last : read_last w ≡ views.entry_if s.last
    last = last_told s.number.0 s.last w (h.last (omega (arith, l))) (word 1 (omega arith)) (λ i a b. word i (omega (arith, b)) ∙ at i a b)

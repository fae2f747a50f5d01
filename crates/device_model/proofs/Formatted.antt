-- The images of a format.
use Rattle.std.proofs.Common.{◌≡◌, ◌≢◌, ℕ, zero, suc, ◌+◌, ◌-◌, ◌<◌, ◌≤◌, ⊎_elim, List, [], ◌∷◌, length, take, arith, refl, ap, sym, ◌∙◌, subst, get_or}
use Rattle.std.proofs.lemmas.List.{length-append, length-replicate, get_or_append_left, get_or-append_right}
use Rattle.set_model.specs.Sets.{TaskSet}
use Rattle.set_model.specs.Limits.{IsTaskSet}
use Rattle.set_model.specs.Numbers.{first_index}
use Rattle.set_model.specs.Formatted.{formatted}
use Rattle.set_model.proofs.ForCallers.{formatted_is_base}
use Rattle.device_model.specs.Words.{Words, Change, made, with_word, written_at}
use Rattle.device_model.specs.Layouts.{Layout, header_word, need}
use Rattle.device_model.specs.Keeping.{IsHeld, KeepsIn}
use Rattle.device_model.specs.Places.{IsLaidOut}
use Rattle.device_model.specs.Formats.{format_body, format_writes, formatted_held, formatted_index, formatted_words, fresh_word, format_word}
use Rattle.device_model.proofs.Writes.{Every, Every-same, Every-take, Every-written, length-words_from, length-written, made-last, take-body, untouched, with_word-other, with_word-same, written-at, word_from}
use Rattle.device_model.proofs.Free.{header-root}
use Rattle.device_model.proofs.Fresh.{first_slot, fresh-header, fresh_keeps, put_in_order, two_slots}

-- ---- the state

pub formatted_fits : (set : TaskSet) (l : Layout) → IsLaidOut set l → IsTaskSet set → IsHeld set l (formatted_held l set)
formatted_fits set l d t =
    let b = formatted_is_base set t in record {
      index = record {
        clock = omega arith;
        next = b.next;
        last = refl;
        slots = length-replicate (length set.objects) 0;
        named = λ o a. let two = two_slots set o t a in omega (arith, first_slot set o a);
        records = b.records;
        in_order = b.in_order;
        positive = b.positive;
        old = b.old;
        programs = b.programs;
      };
      objects = b.objects;
      words = b.words;
      root = d.is_first_root;
    }

-- ---- how many writes

low_need : (set : TaskSet) (l : Layout) → IsLaidOut set l → 7 ≤ need l set
low_need set l d = let f = d.header_first in omega arith

length-body : (set : TaskSet) (l : Layout) → IsLaidOut set l → length (format_body l set) ≡ need l set
length-body set l d = omega (arith, low_need set l d, length-written 1 (formatted_words l set), length-words_from (fresh_word l set (formatted_index set) (formatted set).objects) 1 (need l set - 1))

pub length-format : (set : TaskSet) (l : Layout) → IsLaidOut set l → length (format_writes l set) ≡ need l set + 1
unfolding format_writes
length-format set l d = omega (arith, length-append (format_body l set) ((0, l.magic) ∷ []), length-body set l d)

-- ---- the images

behind : (l : Layout) (set : TaskSet) → Every (λ w. 0 < w.0) (written_at 1 (formatted_words l set))
behind l set = Every-written (λ p. 0 < p) 1 (formatted_words l set) (λ i a. omega arith)

-- from the first write until the magic comes word 0 is 0
pub format_blank : (set : TaskSet) (l : Layout) (words : Words) (k : ℕ) → IsLaidOut set l → 0 < k → k ≤ need l set → made (take k (format_writes l set)) words 0 ≡ 0
unfolding format_writes
format_blank set l words k d a b =
    ap (λ (log : List Change). made log words 0) (take-body k (format_body l set) (0, l.magic) (omega (arith, length-append (format_body l set) ((0, l.magic) ∷ []), length-body set l d)))
    ∙ first k a
  where
    first : (k : ℕ) → 0 < k → made (take k (format_body l set)) words 0 ≡ 0
    first zero a = absurd (omega arith)
    first (suc k) a =
        untouched (take k (written_at 1 (formatted_words l set))) (with_word (0, 0) words) 0 (Every-take (λ w. w.0 ≢ 0) k (written_at 1 (formatted_words l set)) (Every-same (λ w. 0 < w.0) (λ w. w.0 ≢ 0) (written_at 1 (formatted_words l set)) (λ w l e. omega arith) (behind l set)))
        ∙ with_word-same (0, 0) words 0 refl

-- and after it the first state stands there
pub format_whole : (set : TaskSet) (l : Layout) (words : Words) → IsLaidOut set l → IsTaskSet set → KeepsIn set l (formatted_held l set) (made (format_writes l set) words)
unfolding format_writes
format_whole set l words d t = subst (KeepsIn set l (formatted_held l set)) (sym (made-last (format_body l set) (0, l.magic) words))
    (fresh_keeps set l (formatted_index set) (formatted set).objects 0 (with_word (0, l.magic) mid) d t (formatted_fits set l d t) refl header boots
    (λ p where_ a. at p (⊎_elim (λ e. let r = root_positive in omega arith) (λ e. let r = d.header_first in omega arith) where_) a))
  where
    mid : Words
    mid = made (format_body l set) words

    root_positive : 0 < l.root
    root_positive = ⊎_elim (λ e. omega arith) (λ e. omega arith) d.root_apart

    at : (p : ℕ) → 0 < p → p < need l set → with_word (0, l.magic) mid p ≡ fresh_word l set (formatted_index set) (formatted set).objects p
    at p a b = with_word-other (0, l.magic) mid p (λ e. omega arith) ∙ put_in_order (fresh_word l set (formatted_index set) (formatted set).objects) (with_word (0, 0) words) 1 (need l set - 1) p (omega arith) (omega (arith, low_need set l d))

    low : (j : ℕ) → j < first_index set → j < need l set
    low j a = let f = d.header_first in omega arith

    header : (j : ℕ) → j < first_index set → j ≢ 1 → j ≢ 2 → with_word (0, l.magic) mid j ≡ header_word l set j
    header zero a m n = with_word-same (0, l.magic) mid 0 refl
    header (suc j) a m n = at (suc j) (omega arith) (low (suc j) a) ∙ fresh-header l set (formatted_index set) (formatted set).objects (suc j) (λ e. header-root set l (suc j) d a m (sym e)) a

    boots : with_word (0, l.magic) mid 2 ≡ 0
    boots = at 2 (omega arith) (let n = low_need set l d in omega arith) ∙ fresh-header l set (formatted_index set) (formatted set).objects 2 (λ e. header-root set l 2 d (omega arith) (λ f. omega arith) (sym e)) (omega arith)

-- ---- write number k

pub format_write_first : (l : Layout) (set : TaskSet) → get_or (format_writes l set) 0 (0, 0) ≡ (0, 0)
unfolding format_writes
format_write_first l set = refl

pub format_write_at : (set : TaskSet) (l : Layout) (k : ℕ) → IsLaidOut set l → 0 < k → k < need l set → get_or (format_writes l set) k (0, 0) ≡ (k, format_word l set k)
unfolding format_writes
format_write_at set l zero d a b = absurd (omega arith)
format_write_at set l (suc k) d a b =
    let long : length (formatted_words l set) ≡ need l set - 1 = length-words_from (format_word l set) 1 (need l set - 1) in
    let e : 1 + k ≡ suc k = omega arith in
    get_or_append_left (format_body l set) ((0, l.magic) ∷ []) (0, 0) (suc k) (omega (arith, length-body set l d))
    ∙ written-at 1 (formatted_words l set) k (omega arith)
    ∙ ap (λ (w : ℕ). let c : Change = (1 + k, w) in c) (word_from (format_word l set) 1 (need l set - 1) k (omega arith))
    ∙ ap (λ (p : ℕ). let c : Change = (p, format_word l set p) in c) e

pub format_write_last : (set : TaskSet) (l : Layout) → IsLaidOut set l → get_or (format_writes l set) (need l set) (0, 0) ≡ (0, l.magic)
unfolding format_writes
format_write_last set l d =
    let e : need l set - need l set ≡ 0 = omega arith in
    get_or-append_right (format_body l set) ((0, l.magic) ∷ []) (need l set) (need l set) (0, 0) (length-body set l d) (omega arith) ∙ ap (λ (i : ℕ). get_or ((0, l.magic) ∷ []) i (0, 0)) e

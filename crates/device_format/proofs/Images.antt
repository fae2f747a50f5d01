-- The words of a device after a format or a migration, whole or cut.
use Rattle.std.proofs.Common.{◌≡◌, ◌⊎◌, ⊎_elim, inl, inr, ℕ, zero, suc, ◌-◌, ◌<◌, ◌≤◌, List, [], ◌∷◌, ◌++◌, length, slice_index, take, arith, ap, sym, ◌∙◌, subst}
use Rattle.std.proofs.lemmas.Bool.{cases_lt}
use Rattle.std.proofs.Math.Seq.{take-length}
use Rattle.fram_dev.proofs.MadeIn.{length-made_in, made_in-append}
use Rattle.set_model.specs.Sets.{TaskSet}
use Rattle.set_model.specs.Limits.{IsTaskSet}
use Rattle.set_model.specs.Numbers.{words_needed}
use Rattle.device_model.specs.Words.{Change, Words, made, made_in, words_from}
use Rattle.device_model.specs.Layouts.{Layout, Migrated, Plain, layout_of, magic_of, need}
use Rattle.device_model.specs.Decoding.{Blank, Held, Holds, decode, decode_by}
use Rattle.device_model.specs.Formats.{format_body, format_writes, format_word, formatted_words}
use Rattle.device_model.specs.Migrations.{migration_body, migration_writes, moved_held, moved_word}
use Rattle.device_model.specs.Devices.{Device, HoldsOn, IsKindOn, first_on, format_on, layout_on, migrated, need_on, plain}
use Rattle.device_model.specs.Places.{IsLaidOut}
use Rattle.device_model.proofs.Decoded.{blank_format, cut_migration, whole_format, whole_migration}
use Rattle.device_model.proofs.Formatted.{length-format}
use Rattle.device_model.proofs.ForCallers.{laid_out_set}
use Rattle.device_model.proofs.Writes.{Every, Every-append, Every-take, Every-written, image_by_place, length-words_from}
use Rattle.device_format.specs.Puts.{HasFront}

-- ---- the words after some writes, all within the device

pub image_after_writes : (writes old : List Change) (start : List ℕ) → Every (λ w. w.0 < length start) writes → slice_index (made_in (old ++ writes) start) ≡ made writes (slice_index (made_in old start))
image_after_writes writes old start h =
    ap slice_index (made_in-append old writes start)
    ∙ image_by_place writes (made_in old start) (subst (λ (n : ℕ). Every (λ w. w.0 < n) writes) (sym (length-made_in old start)) h)

image_after_front : (writes old new : List Change) (start : List ℕ) (k : ℕ) → Every (λ w. w.0 < length start) writes → new ≡ old ++ take k writes → slice_index (made_in new start) ≡ made (take k writes) (slice_index (made_in old start))
image_after_front writes old new start k h e = ap (λ (log : List Change). slice_index (made_in log start)) e ∙ image_after_writes (take k writes) old start (Every-take (λ w. w.0 < length start) k writes h)

-- ---- a format

format_within : (set : TaskSet) (l : Layout) (n : ℕ) → IsLaidOut set l → need l set ≤ n → Every (λ w. w.0 < n) (format_writes l set)
unfolding format_writes
format_within set l n d a =
    let low = d.header_first in
    Every-append (λ w. w.0 < n) (format_body l set) ((0, l.magic) ∷ [])
    (omega (arith, low, a), Every-written (λ p. p < n) 1 (formatted_words l set) (λ i b. omega (arith, b, a, length-words_from (format_word l set) 1 (need l set - 1))))
    (omega (arith, low, a), tt)

pub format_image : (d : Device) (start : List ℕ) (old new : List Change) → IsTaskSet d.set → IsKindOn d → need_on d ≤ length start → HasFront (format_on d) old new
    → (slice_index (made_in new start) ≡ slice_index (made_in old start)) ⊎ (decode d.set (slice_index (made_in new start)) ≡ Blank) ⊎ HoldsOn d (first_on d) (slice_index (made_in new start))
format_image d start old new t kind room h = at h.0 h.1 h.2
  where
    laid : IsLaidOut d.set (layout_on d)
    laid = laid_out_set d.kind d.set t

    before : Words
    before = slice_index (made_in old start)

    at : (k : ℕ) → k ≤ length (format_on d) → new ≡ old ++ take k (format_on d)
        → (slice_index (made_in new start) ≡ before) ⊎ (decode d.set (slice_index (made_in new start)) ≡ Blank) ⊎ HoldsOn d (first_on d) (slice_index (made_in new start))
    at k most e = cases k most (image_after_front (format_on d) old new start k (format_within d.set (layout_on d) (length start) laid room) e)
      where
        cases : (k : ℕ) → k ≤ length (format_on d) → slice_index (made_in new start) ≡ made (take k (format_on d)) before
            → (slice_index (made_in new start) ≡ before) ⊎ (decode d.set (slice_index (made_in new start)) ≡ Blank) ⊎ HoldsOn d (first_on d) (slice_index (made_in new start))
        cases zero most e = inl e
        cases (suc k) most e = ⊎_elim
            (λ a. inr (inl (ap (decode d.set) e ∙ blank_format d.set.format d.kind d.set before (suc k) t (omega arith) (omega (arith, a)))))
            (λ a. let all : suc k ≡ length (format_on d) = omega (arith, a, most, length-format d.set (layout_on d) laid) in
            inr (inr (ap (decode d.set) (e ∙ ap (λ (n : ℕ). made (take n (format_on d)) before) all ∙ ap (λ (log : List Change). made log before) (take-length (format_on d))) ∙ whole_format d.set.format d.kind d.set before t kind)))
            (cases_lt k (need_on d))

pub format_all_image : (d : Device) (start : List ℕ) (old : List Change) → IsTaskSet d.set → IsKindOn d → need_on d ≤ length start → HoldsOn d (first_on d) (slice_index (made_in (old ++ format_on d) start))
format_all_image d start old t kind room =
    ap (decode d.set) (image_after_writes (format_on d) old start (format_within d.set (layout_on d) (length start) (laid_out_set d.kind d.set t) room)) ∙ whole_format d.set.format d.kind d.set (slice_index (made_in old start)) t kind

-- ---- a migration

migration_within : (set : TaskSet) (h : Held) (n : ℕ) → need (layout_of Migrated set) set ≤ n → Every (λ w. w.0 < n) (migration_writes set h)
unfolding migration_writes
migration_within set h n a =
    let count : ℕ = need (layout_of Migrated set) set - words_needed set in
    Every-append (λ w. w.0 < n) (migration_body set h) ((0, magic_of Migrated) ∷ [])
    (Every-written (λ p. p < n) (words_needed set) (words_from (moved_word set h) (words_needed set) count) (λ i b. omega (arith, b, a, length-words_from (moved_word set h) (words_needed set) count)))
    (omega (arith, a), tt)

pub migration_image : (set : TaskSet) (h : Held) (start : List ℕ) (old new : List Change) → IsTaskSet set → set.format ≡ 2 → need_on (migrated set) ≤ length start → HoldsOn (plain set) h (slice_index (made_in old start)) → HasFront (migration_writes set h) old new
    → HoldsOn (plain set) h (slice_index (made_in new start)) ⊎ HoldsOn (migrated set) (moved_held set h) (slice_index (made_in new start))
migration_image set h start old new t two room holds f = ⊎_elim
    (λ a. inl (subst (λ (n : ℕ). decode_by n set (slice_index (made_in new start)) ≡ Holds Plain h) (sym two) (ap (decode_by 2 set) image ∙ cut_migration set h before k t before_2 a)))
    (λ a. let all : k ≡ length (migration_writes set h) = omega (arith, a, f.1) in
    inr (subst (λ (n : ℕ). decode_by n set (slice_index (made_in new start)) ≡ Holds Migrated (moved_held set h)) (sym two)
    (ap (decode_by 2 set) (image ∙ ap (λ (n : ℕ). made (take n (migration_writes set h)) before) all ∙ ap (λ (log : List Change). made log before) (take-length (migration_writes set h))) ∙ whole_migration set h before t before_2)))
    (cases_lt k (length (migration_writes set h)))
  where
    k : ℕ
    k = f.0

    before : Words
    before = slice_index (made_in old start)

    before_2 : decode_by 2 set before ≡ Holds Plain h
    before_2 = subst (λ (n : ℕ). decode_by n set before ≡ Holds Plain h) two holds

    image : slice_index (made_in new start) ≡ made (take k (migration_writes set h)) before
    image = image_after_front (migration_writes set h) old new start k (migration_within set h (length start) room) f.2

pub migration_all_image : (set : TaskSet) (h : Held) (start : List ℕ) (old : List Change) → IsTaskSet set → set.format ≡ 2 → need_on (migrated set) ≤ length start → HoldsOn (plain set) h (slice_index (made_in old start))
    → HoldsOn (migrated set) (moved_held set h) (slice_index (made_in (old ++ migration_writes set h) start))
migration_all_image set h start old t two room holds = subst (λ (n : ℕ). decode_by n set (slice_index (made_in (old ++ migration_writes set h) start)) ≡ Holds Migrated (moved_held set h)) (sym two)
    (ap (decode_by 2 set) (image_after_writes (migration_writes set h) old start (migration_within set h (length start) room))
    ∙ whole_migration set h (slice_index (made_in old start)) t (subst (λ (n : ℕ). decode_by n set (slice_index (made_in old start)) ≡ Holds Plain h) two holds))

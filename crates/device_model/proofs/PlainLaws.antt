-- Format 1, place by place.
use Rattle.std.proofs.Common.{◌≡◌, ℕ, ◌+◌, ◌-◌, ◌*◌, ◌/◌, ◌%◌, ◌<◌, ⊎_elim, arith, refl, ap, sym, ◌∙◌}
use Rattle.std.proofs.lemmas.Bool.{cases_eq, eq-eqb, ne_eqb, le-ltb, lt-ltb}
use Rattle.std.proofs.lemmas.Nat.{div-mul-add, mod-mul-add}
use Rattle.set_model.specs.Sets.{TaskSet}
use Rattle.set_model.specs.Numbers.{boot_turns, first_index, index_words, words_needed}
use Rattle.device_model.specs.Layouts.{Layout, Plain, boot_turns_of, index_place, layout_of, need, read_place}

one_page : (l : Layout) (root i : ℕ) → i < l.page_words → index_place l root i ≡ l.pages_at + l.copy root 0 * l.page_words + i
one_page l root i a =
    let e : 0 * l.page_words + i ≡ i = omega arith in
    let row : i / l.page_words ≡ 0 = ap (λ (p : ℕ). p / l.page_words) (sym e) ∙ div-mul-add 0 l.page_words i a in
    let rest : i % l.page_words ≡ i = ap (λ (p : ℕ). p % l.page_words) (sym e) ∙ mod-mul-add 0 l.page_words i a in
    rw (row, rest) (omega arith)

pub plain_copy : (set : TaskSet) (root i : ℕ) → i < index_words set → index_place (layout_of Plain set) root i ≡ first_index set + (root - 1) * index_words set + i
plain_copy set root i a = one_page (layout_of Plain set) root i a

pub plain_copy_1 : (set : TaskSet) (i : ℕ) → i < index_words set → index_place (layout_of Plain set) 1 i ≡ first_index set + i
plain_copy_1 set i a = plain_copy set 1 i a ∙ omega arith

pub plain_copy_2 : (set : TaskSet) (i : ℕ) → i < index_words set → index_place (layout_of Plain set) 2 i ≡ first_index set + index_words set + i
plain_copy_2 set i a = plain_copy set 2 i a ∙ omega arith

pub plain_need : (set : TaskSet) → (need (layout_of Plain set) set ≡ words_needed set) × (boot_turns_of (layout_of Plain set) ≡ boot_turns set)
plain_need set = (omega arith, omega arith)

-- words are read in order of place up to the index
pub plain_head : (set : TaskSet) (root j : ℕ) → j < first_index set → read_place (layout_of Plain set) root j ≡ j
plain_head set root j a = rw (lt-ltb j (first_index set) a) (⊎_elim (λ e. rw (eq-eqb j 1 e) (sym e)) (λ n. rw (ne_eqb j 1 n) refl) (cases_eq j 1))

pub plain_index : (set : TaskSet) (root i : ℕ) → i < index_words set → read_place (layout_of Plain set) root (first_index set + i) ≡ first_index set + (root - 1) * index_words set + i
plain_index set root i a =
    let e : first_index set + i - first_index set ≡ i = omega arith in
    rw (le-ltb (first_index set + i) (first_index set) (omega arith), e) (plain_copy set root i a)

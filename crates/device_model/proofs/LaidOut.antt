-- Each kind of device is laid out as the laws ask.
use Rattle.std.proofs.Common.{◌≡◌, ◌≢◌, ℕ, ◌+◌, ◌-◌, ◌*◌, ◌/◌, ◌%◌, ◌^◌, ◌<◌, ◌≤◌, ◌⊎◌, inl, inr, ⊎_elim, Bool, true, false, cond, nat_le, eqb, ◌||◌, arith, refl, ap, sym, ◌∙◌}
use Rattle.std.proofs.lemmas.Bool.{cases_lt, eq-eqb, eqb-true, leb-true, or_cases}
use Rattle.std.proofs.lemmas.Nat.{mod_below, pow-add, pow_below, pow_pos, shr_split}
use Rattle.set_model.proofs.ForCallers.{few_objects, few_records}
use Rattle.set_model.specs.Sets.{TaskSet}
use Rattle.set_model.specs.Limits.{IsTaskSet}
use Rattle.set_model.specs.Numbers.{index_words, first_index, words_needed}
use Rattle.device_model.specs.Layouts.{Kind, Plain, Paged, Migrated, layout_of, plain_layout, paged_layout, magic_of, count_pages, words_of_page, bit, turned_bits}
use Rattle.device_model.specs.Places.{IsLaidOut}
use Rattle.device_model.proofs.Roots.{bit-turned, high-turned, bit-lt, same_bits, top, top-bit}

-- ---- format 1

plain_root : (r : ℕ) → ((eqb r 1) || (eqb r 2)) ≡ true → (r ≡ 1) ⊎ (r ≡ 2)
plain_root r h = ⊎_elim (λ e. inl (eqb-true r 1 e)) (λ e. inr (eqb-true r 2 e)) (or_cases (eqb r 1) (eqb r 2) h)

plain_flipped : (b : Bool) (r : ℕ) → (r ≡ 1) ⊎ (r ≡ 2) → ((eqb (cond b (3 - r) r) 1) || (eqb (cond b (3 - r) r) 2)) ≡ true
plain_flipped true r h = ⊎_elim (λ e. rw e refl) (λ e. rw e refl) h
plain_flipped false r h = ⊎_elim (λ e. rw e refl) (λ e. rw e refl) h

plain_other : (b : Bool) (r : ℕ) → (r ≡ 1) ⊎ (r ≡ 2) → cond b (3 - r) r - 1 ≡ cond b (1 - (r - 1)) (r - 1)
plain_other true r h = ⊎_elim (λ e. omega arith) (λ e. omega arith) h
plain_other false r h = refl

pub laid_out_plain : (set : TaskSet) → IsLaidOut set (plain_layout set)
laid_out_plain set = record {
  magic = λ e. omega arith;
  page_words = omega arith;
  pages = omega arith;
  fits = omega arith;
  header_first = omega arith;
  root_first = omega arith;
  root_apart = inl refl;
  head_read = omega arith;
  root_in = omega arith;
  root_once = inl refl;
  then_root = λ j l m. absurd (omega arith);
  is_first_root = refl;
  first_copy = λ page l. refl;
  copies = λ root page h l. ⊎_elim (λ e. omega arith) (λ e. omega arith) (plain_root root h);
  is_flipped = λ turns root h. plain_flipped (turns 0) root (plain_root root h);
  other_copy = λ turns root page h l. let e : 0 ≡ page = omega arith in plain_other (turns 0) root (plain_root root h) ∙ ap (λ (p : ℕ). cond (turns p) (1 - (root - 1)) (root - 1)) e;
}

-- ---- format 2

pages_suffice : (b : Bool) (i : ℕ) → nat_le i 992 ≡ b → 0 < i → i ≤ 3968 →
    (let z : ℕ = cond b 32 128 in (9 ≤ z) × (0 < (i + (z - 1)) / z) × ((i + (z - 1)) / z ≤ 31) × (i ≤ (i + (z - 1)) / z * z))
pages_suffice true i e p l = let small : i ≤ 992 = leb-true i 992 e in (omega arith, omega arith, omega arith, omega arith)
pages_suffice false i e p l = (omega arith, omega arith, omega arith, omega arith)

pub paged_suffices : (set : TaskSet) → index_words set ≤ 31 * 128 → (9 ≤ words_of_page set) × (0 < count_pages set) × (count_pages set ≤ 31) × (index_words set ≤ count_pages set * words_of_page set)
paged_suffices set l = pages_suffice (nat_le (index_words set) 992) (index_words set) refl (omega arith) (omega arith)

pub laid_out_paged : (set : TaskSet) (magic root : ℕ) → index_words set ≤ 31 * 128 → magic ≢ 0 → first_index set ≤ root → IsLaidOut set (paged_layout magic root set)
laid_out_paged set magic root l nonzero behind =
    let s = paged_suffices set l in record {
      magic = nonzero;
      page_words = s.0;
      pages = s.1;
      fits = s.3;
      header_first = omega arith;
      root_first = omega arith;
      root_apart = inr behind;
      head_read = omega arith;
      root_in = omega arith;
      root_once = inr (omega arith);
      then_root = λ j a b. omega arith;
      is_first_root = eq-eqb (2 ^ 31 / 2 ^ count_pages set) (2 ^ (31 - count_pages set)) (top (count_pages set) s.2);
      first_copy = λ page a. top-bit page (omega (arith, a, s.2));
      copies = λ r page h a. bit-lt r page;
      is_flipped = λ turns r h. eq-eqb (turned_bits turns 0 (count_pages set) r / 2 ^ count_pages set) (2 ^ (31 - count_pages set)) (high-turned turns 0 (count_pages set) r ∙ eqb-true (r / 2 ^ count_pages set) (2 ^ (31 - count_pages set)) h);
      other_copy = λ turns r page h a. let e : 0 + page ≡ page = omega arith in bit-turned turns 0 (count_pages set) r page a ∙ ap (λ (k : ℕ). cond (turns k) (1 - bit r page) (bit r page)) e;
    }

pub laid_out : (kind : Kind) (set : TaskSet) → index_words set ≤ 31 * 128 → IsLaidOut set (layout_of kind set)
laid_out Plain set l = laid_out_plain set
laid_out Paged set l = laid_out_paged set (magic_of Paged) (first_index set) l (λ e. omega arith) (omega arith)
laid_out Migrated set l = laid_out_paged set (magic_of Migrated) (words_needed set) l (λ e. omega arith) (omega arith)

-- the index of a set within the limits has 31 pages at most
pub laid_out_set : (kind : Kind) (set : TaskSet) → IsTaskSet set → IsLaidOut set (layout_of kind set)
laid_out_set kind set h = let n = few_objects set h in let r = few_records set h in laid_out kind set (omega arith)

-- ---- a root is what it names

pub root_once : (kind : Kind) (set : TaskSet) (r s : ℕ) → (layout_of kind set).is_root r ≡ true → (layout_of kind set).is_root s ≡ true → ((page : ℕ) → page < (layout_of kind set).pages → (layout_of kind set).copy r page ≡ (layout_of kind set).copy s page) → r ≡ s
root_once Plain set r s a b f =
    let e : r - 1 ≡ s - 1 = f 0 (omega arith) in
    ⊎_elim (λ p. ⊎_elim (λ q. omega arith) (λ q. omega (arith, e)) (plain_root s b)) (λ p. ⊎_elim (λ q. omega (arith, e)) (λ q. omega arith) (plain_root s b)) (plain_root r a)
root_once Paged set r s a b f = same_bits (count_pages set) r s (eqb-true (r / 2 ^ count_pages set) (2 ^ (31 - count_pages set)) a ∙ sym (eqb-true (s / 2 ^ count_pages set) (2 ^ (31 - count_pages set)) b)) f
root_once Migrated set r s a b f = same_bits (count_pages set) r s (eqb-true (r / 2 ^ count_pages set) (2 ^ (31 - count_pages set)) a ∙ sym (eqb-true (s / 2 ^ count_pages set) (2 ^ (31 - count_pages set)) b)) f

-- ---- a root is a word

high_bits : (q r : ℕ) → q ≤ 31 → r / 2 ^ q ≡ 2 ^ (31 - q) → r < 2 ^ 32
high_bits q r l e =
    let split : r / 2 ^ q * 2 ^ q + r % 2 ^ q ≡ r = shr_split r q in
    let whole : 2 ^ (31 - q) * 2 ^ q ≡ 2 ^ 31 = let f : 31 - q + q ≡ 31 = omega arith in sym (pow-add 2 (31 - q) q) ∙ ap (λ (m : ℕ). 2 ^ m) f in
    let top : r / 2 ^ q * 2 ^ q ≡ 2 ^ 31 = ap (λ (m : ℕ). m * 2 ^ q) e ∙ whole in
    let rest : r % 2 ^ q < 2 ^ q = mod_below r (2 ^ q) (pow_pos q) in
    let most : 2 ^ q ≤ 2 ^ 31 = ⊎_elim (λ b. let p = pow_below q 31 b in omega (arith, p)) (λ b. let f : q ≡ 31 = omega arith in let g : 2 ^ q ≡ 2 ^ 31 = ap (λ (m : ℕ). 2 ^ m) f in omega (arith, g)) (cases_lt q 31) in
    let lowest : 2 ^ 31 + 2 ^ 31 ≡ 2 ^ 32 = refl in
    omega (arith, split, top, rest, most, lowest)

paged_root : (set : TaskSet) (r : ℕ) → index_words set ≤ 31 * 128 → eqb (r / 2 ^ count_pages set) (2 ^ (31 - count_pages set)) ≡ true → r < 2 ^ 32
paged_root set r l h = let s = paged_suffices set l in high_bits (count_pages set) r s.2 (eqb-true (r / 2 ^ count_pages set) (2 ^ (31 - count_pages set)) h)

index_fits : (set : TaskSet) → IsTaskSet set → index_words set ≤ 31 * 128
index_fits set h = let n = few_objects set h in let r = few_records set h in omega arith

pub root-word : (kind : Kind) (set : TaskSet) (root : ℕ) → IsTaskSet set → (layout_of kind set).is_root root ≡ true → root < 2 ^ 32
root-word Plain set root t h = ⊎_elim (λ e. omega arith) (λ e. omega arith) (plain_root root h)
root-word Paged set root t h = paged_root set root (index_fits set t) h
root-word Migrated set root t h = paged_root set root (index_fits set t) h

pub few_pages : (kind : Kind) (set : TaskSet) → IsTaskSet set → (layout_of kind set).pages ≤ 31
few_pages Plain set t = omega arith
few_pages Paged set t = (paged_suffices set (index_fits set t)).2
few_pages Migrated set t = (paged_suffices set (index_fits set t)).2

-- What the tables of a set's layout keep, and the words of one page.
use Rattle.std.proofs.Common.{◌≡◌, ℕ, zero, suc, ◌+◌, ◌-◌, ◌*◌, ◌/◌, ◌%◌, ◌<◌, ◌≤◌, Bool, true, false, cond, eqb, leb, not, ◌||◌, ◌&&◌, length, refl, ap, ap₂, sym, ◌∙◌, arith}
use Rattle.std.proofs.lemmas.Bool.{eq-eqb, ne_eqb, leb-true}
use Rattle.set_model.specs.Sets.{TaskSet}
use Rattle.device_model.specs.Words.{Words}
use Rattle.device_model.specs.Layouts.{Kind, Plain, Paged, Migrated, Layout, count_pages, index_reads, layout_of, turned_bits}
use Rattle.device_model.specs.Commits.{differs}
use Rattle.device_model.specs.Places.{IsLaidOut}
use Rattle.device_model.proofs.ForCallers.{laid_out_set}
use Rattle.device_model.proofs.PlaceLaws.{page_of}
use Rattle.shadow_index.specs.Tells.{kind_by}
use Rattle.commit_writer.specs.declared.job.Job.{Job}
use Rattle.commit_writer.specs.Rooms.{IsFor, layout_by}

reads_by : (set : TaskSet) (f s : Bool) → index_reads (layout_of (cond f Plain (cond s Paged Migrated)) set) ≡ index_reads (layout_of (cond f Plain Paged) set)
reads_by set true s = refl
reads_by set false true = refl
reads_by set false false = refl

-- a migration changes neither the pages nor their words
pub same_reads : (set : TaskSet) (shift : ℕ) → index_reads (layout_by set shift) ≡ index_reads (layout_by set 0)
same_reads set shift = reads_by set (eqb set.format 1) (eqb shift 0)

pages_by : (set : TaskSet) (f s : Bool) → (layout_of (cond f Plain (cond s Paged Migrated)) set).pages ≡ (layout_of (cond f Plain Paged) set).pages
pages_by set true s = refl
pages_by set false true = refl
pages_by set false false = refl

pub same_pages : (set : TaskSet) (shift : ℕ) → (layout_by set shift).pages ≡ (layout_by set 0).pages
same_pages set shift = pages_by set (eqb set.format 1) (eqb shift 0)

pub laid_out_by : (set : TaskSet) (job : Job) → IsFor set job → IsLaidOut set (layout_by set job.shift)
laid_out_by set job h = laid_out_set (kind_by set.format job.shift) set h.limits

pub few_pages : (set : TaskSet) (job : Job) → IsFor set job → (layout_by set job.shift).pages ≤ 31
few_pages set job h = omega (arith, job.layout.few, h.places.pages)

pub few_reads : (set : TaskSet) (job : Job) → IsFor set job → index_reads (layout_by set job.shift) ≤ 3968
few_reads set job h = omega (arith, job.layout.reads, h.places.reads)

-- the page of an object's slot word
pub page_of_slot : (set : TaskSet) (job : Job) (o : ℕ) → IsFor set job → o < length set.objects → (9 + o) / (layout_by set job.shift).page_words < (layout_by set job.shift).pages
page_of_slot set job o h l =
    let d = laid_out_by set job h in
    let fits = d.fits in
    let z = d.page_words in
    (page_of (layout_by set job.shift) (9 + o) (omega (arith, l, fits)) (omega (arith, z))).0

-- a page ends within the index
pub page_end : (l : Layout) (page : ℕ) → page < l.pages → page * l.page_words + l.page_words ≤ index_reads l
page_end l page h = below page l.pages l.page_words h
  where
    below : (p n w : ℕ) → p < n → p * w + w ≤ n * w
    below p n w h = grind arith

-- ---- whether a word of a page differs, word by word

pub differs_here : (low : ℕ) (v w : Words) (i last : ℕ) → i < last → low ≤ i → (v i ≡ w i → ⊥) → differs low v w i (last - i) ≡ true
differs_here low v w i last l a n =
    let f : last - i ≡ suc (last - (i + 1)) = omega arith in
    ap (differs low v w i) f ∙ by (leb low i) (eqb (v i) (w i)) (leb_of low i a) (ne_eqb (v i) (w i) n)
  where
    leb_of : (a b : ℕ) → a ≤ b → leb a b ≡ true
    leb_of a b h = grind (arith, leb-true)

    by : (p q : Bool) → p ≡ true → q ≡ false → ((p && not q) || differs low v w (i + 1) (last - (i + 1))) ≡ true
    by true false e f = refl
    by true true e f = absurd (cc f)
    by false q e f = absurd (cc e)

pub differs_later : (low : ℕ) (v w : Words) (i last : ℕ) → i < last → (low ≤ i → v i ≡ w i) → differs low v w (i + 1) (last - (i + 1)) ≡ differs low v w i (last - i)
differs_later low v w i last l n =
    let f : last - i ≡ suc (last - (i + 1)) = omega arith in
    by (leb low i) refl ∙ ap (differs low v w i) (sym f)
  where
    by : (p : Bool) → leb low i ≡ p → differs low v w (i + 1) (last - (i + 1)) ≡ ((p && not (eqb (v i) (w i))) || differs low v w (i + 1) (last - (i + 1)))
    by true e = let g : eqb (v i) (w i) ≡ true = eq-eqb (v i) (w i) (n (leb-true low i e)) in rw g refl
    by false e = refl

pub differs_end : (low : ℕ) (v w : Words) (i last : ℕ) → last ≤ i → differs low v w i (last - i) ≡ false
differs_end low v w i last l = let e : last - i ≡ 0 = omega arith in ap (differs low v w i) e

pub differs_moved : (v w : Words) (low more i j n m : ℕ) → low ≡ more → i ≡ j → n ≡ m → differs low v w i n ≡ differs more v w j m
differs_moved v w low more i j n m a b c = ap (λ (k : ℕ). differs k v w i n) a ∙ ap₂ (differs more v w) b c

-- they rest on the words before a number
pub differs_within : (low : ℕ) (v w x : Words) (i n m : ℕ) → i + n ≤ m → ((k : ℕ) → k < m → w k ≡ x k) → differs low v w i n ≡ differs low v x i n
differs_within low v w x i zero m l h = refl
differs_within low v w x i (suc n) m l h = ap₂ (λ (a : ℕ) (b : Bool). (leb low i && not (eqb (v i) a)) || b) (h i (omega arith)) (differs_within low v w x (i + 1) n m (omega arith) h)

turned_same : (f g : ℕ → Bool) (from n r : ℕ) → ((k : ℕ) → from ≤ k → k < from + n → f k ≡ g k) → turned_bits f from n r ≡ turned_bits g from n r
turned_same f g from zero r h = refl
turned_same f g from (suc n) r h = ap₂ (λ (b : Bool) (m : ℕ). cond b (1 - r % 2) (r % 2) + 2 * m) (h from (omega arith) (omega arith)) (turned_same f g (from + 1) n (r / 2) (λ k a b. h k (omega arith) (omega arith)))

-- the next root rests on the pages that there are
pub flipped_same : (kind : Kind) (set : TaskSet) (f g : ℕ → Bool) (root : ℕ) → ((k : ℕ) → k < (layout_of kind set).pages → f k ≡ g k) → (layout_of kind set).flipped f root ≡ (layout_of kind set).flipped g root
flipped_same Plain set f g root h = ap (λ (b : Bool). cond b (3 - root) root) (h 0 (omega arith))
flipped_same Paged set f g root h = turned_same f g 0 (count_pages set) root (λ k a b. h k (omega (arith, b)))
flipped_same Migrated set f g root h = turned_same f g 0 (count_pages set) root (λ k a b. h k (omega (arith, b)))
